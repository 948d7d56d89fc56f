-- When a ledger stands by a book.
use Rattle.std.specs.Prelude.{◌≡◌, ℕ, zero, suc, ◌+◌, Bool, true, false, List, [], ◌∷◌, length, is_ok, is_some, IsSomeAnd, Some, Err, Result}
use Rattle.coinsview.specs.declared.view.CoinsView.{Ghosts as ViewGhosts}
use Rattle.views.specs.declared.condition.SpendCondition.{Ghosts as ConditionGhosts}
use Rattle.undo.specs.declared.Record.{Record}
use Rattle.undo.specs.Entries.{entries}
use Rattle.blockform.specs.Value.{BlockValue}
use Rattle.connecting.specs.Rules.{needs}
use Rattle.unwinding.specs.Undoing.{back}
use Rattle.ledger.specs.declared.ActiveChain.{ActiveChain}
use Rattle.ledger.specs.declared.Ledger.{Ledger}
use Rattle.ledger.specs.declared.fault.LedgerFault.{LedgerFault}
use Rattle.ledger.specs.declared.fault.LedgerFault.TheVariants.{NotStarted}
use Rattle.ledger.specs.Book.{Terms, Book, tip_id, accept, replay, coins_of}

-- each standing block was accepted by the rules
abbrev pub AllAccepted : Terms → List BlockValue → Type 0
AllAccepted t [] = Unit {0}
AllAccepted t (b ∷ bs) = (is_ok (accept t bs b (replay t bs)) ≡ true) × AllAccepted t bs

-- the undo entries of the newest n blocks: unwinding the newest block gives the coins, the tip and the entries below it, clean
abbrev pub Unwinds : Terms → List BlockValue → ℕ → List Record → Type 0
Unwinds t bs zero es = es ≡ []
Unwinds t [] (suc n) es = ⊥
Unwinds t (b ∷ bs) (suc n) es =
    (below : List Record) × (back t.setting.room es (replay t (b ∷ bs)) true ≡ Some (record { previous = tip_id t bs; below = below; coins = replay t bs; clean = true })) × (length es ≡ needs b + length below) × Unwinds t bs n below

-- a ledger is started once it has an active chain
abbrev pub started : {V C : Type 0} → Ledger V C → Bool
started l = is_some l.active

-- the active chain is the book's: what it was started with, its tip, and how many blocks it keeps
pub record ChainOf (k : Book) (h : ActiveChain) : Type 0 where
  pub halving : h.terms.halving ≡ k.terms.setting.halving
  pub maturity : h.terms.maturity ≡ k.terms.setting.maturity
  pub last : h.terms.last ≡ k.terms.last
  pub tip : h.tip.id ≡ tip_id k.terms k.blocks
  pub height : h.tip.height ≡ length k.blocks
  pub kept : h.kept ≡ k.kept

pub record Stands {V C : Type 0} (v : ViewGhosts V) (c : ConditionGhosts C) (k : Book) (l : Ledger V C) : Type 0 where
  pub active : IsSomeAnd l.active (ChainOf k)
  pub room : v.most l.state.view ≡ k.terms.setting.room
  pub opens : c.opens l.condition ≡ k.terms.setting.opens
  pub coins : v.coins l.state.view ≡ coins_of k
  pub accepted : AllAccepted k.terms k.blocks
  pub undo : Unwinds k.terms k.blocks k.kept (entries l.state.undo)

-- what can be read of the ledger z, and its undo entries, are as in a
pub record Unchanged {V C : Type 0} (v : ViewGhosts V) (a z : Ledger V C) : Type 0 where
  pub room : v.most z.state.view ≡ v.most a.state.view
  pub condition : z.condition ≡ a.condition
  pub coins : v.coins z.state.view ≡ v.coins a.state.view
  pub active : z.active ≡ a.active
  pub undo : entries z.state.undo ≡ entries a.state.undo

-- a call that takes the ledger a to z and answers r follows the book: whatever book a stands by, z stands by the book after the call, and r is the book's answer
abbrev pub Follows : {V C R : Type 0} → ViewGhosts V → ConditionGhosts C → Ledger V C → Ledger V C → R → (Book → Book) → (Book → R) → Type 0
Follows v c a z r next answer = (k : Book) → Stands v c k a → Stands v c (next k) z × (r ≡ answer k)

-- before the start, a call that takes the ledger a to z and answers r is refused and changes nothing
abbrev pub Early : {V C X : Type 0} → Ledger V C → Ledger V C → Result X LedgerFault → Type 0
Early a z r = started a ≡ false → (r ≡ Err NotStarted) × (z ≡ a)
