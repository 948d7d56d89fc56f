mod Free
