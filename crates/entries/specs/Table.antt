-- The entries of a table.
use Rattle.entries.specs.Entries.{Entries}
use Rattle.entries.specs.declared.table.EntryTable.{EntryTable}

abbrev pub entries_in : EntryTable → Entries
entries_in t = t.slots.entries.items
