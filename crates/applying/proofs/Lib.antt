mod Applying
