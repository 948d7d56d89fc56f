-- Coins taken and put, each with its undo entry.
use Rattle.std.specs.Prelude.{◌≡◌, true}
use Rattle.coinsview.specs.declared.view.CoinsView.{Ghosts}
use Rattle.undo.specs.Entries.{entries}
use Rattle.unwinding.specs.declared.chainstate.Chainstate.{Chainstate}
use Rattle.unwinding.specs.Undoing.{back}

-- from old to new: the capacity is the same, and taking the entries back leads to where it led before
pub record TakenBack {V : Type 0} (v : Ghosts V) (old new : Chainstate V) : Type 0 where
  pub fixed : v.most new.view ≡ v.most old.view
  pub back : back (v.most old.view) (entries new.undo) (v.coins new.view) true ≡ back (v.most old.view) (entries old.undo) (v.coins old.view) true
