-- What start answers, and what the book is then started with.
use Rattle.std.specs.Prelude.{ℕ, zero, suc, Bool, true, false, ◌&&◌, List, Ok, Err, Result, nat_le}
use Rattle.coins.specs.declared.coin.Lock.{Lock}
use Rattle.ledger.specs.declared.terms.Parameters.{Parameters}
use Rattle.ledger.specs.declared.fault.LedgerFault.{LedgerFault}
use Rattle.ledger.specs.declared.fault.LedgerFault.TheVariants.{Started, Parameter, NotEmpty}
use Rattle.ledger.specs.Book.{Terms}

-- the halving interval is 1 to 210,000, the maturity 1 to 100, the last height 1 to 4,294,967,295
abbrev pub in_range : Parameters → Bool
in_range p = nat_le 1 p.halving && (nat_le p.halving 210000 && (nat_le 1 p.maturity && (nat_le p.maturity 100 && (nat_le 1 p.last && nat_le p.last 4294967295))))

-- by whether the ledger is started, whether the numbers are in range, and how many coins the view has
abbrev pub start_answer : Bool → Bool → ℕ → Result Unit LedgerFault
start_answer true r n = Err Started
start_answer false false n = Err Parameter
start_answer false true zero = Ok tt
start_answer false true (suc n) = Err NotEmpty

abbrev pub start_terms : ℕ → (Lock → List ℕ → ℕ → Bool) → Parameters → List ℕ → Terms
start_terms room opens p id = record { setting = record { room = room; opens = opens; halving = p.halving; maturity = p.maturity }; last = p.last; start = id }
