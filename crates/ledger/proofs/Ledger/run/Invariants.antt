use Rattle.std.proofs.Common.{take}
use Rattle.ledger.specs.Book.{Book}
use Rattle.ledger.specs.PageLaws.{PageLaws}
use Rattle.ledger.specs.Pages.{Page, At}
use Rattle.ledger.specs.Standing.{Stands}
use Rattle.ledger.proofs.Running.{Runs}
use Rattle.ledger.proofs.Ledger.run.Given as goal

abbrev pub invariant-loop-i : goal.invariant-loop-i
invariant-loop-i g l =
    let v = g.V.CoinsView in
    let c = g.C.SpendCondition in record {
      ok : v.ok l.self.state.view;
      book : (k : Book) → Stands v c k l.initial.self → Runs v c k l.bytes (take l.i l.calls) (take l.i l.answers) l.self;
      page : (p : Page) → At v c p l.initial.self → PageLaws v c p l.bytes (take l.i l.calls) (take l.i l.answers) l.self;
    }
