use Rattle.ledger.proofs.PageRunning.{follows_book, laws_more}
use Rattle.ledger.proofs.Ledger.perform.Goals as goal

pub returns-clause-law : goal.returns-clause-law
returns-clause-law g c = follows_book g.V.CoinsView g.C.SpendCondition c.args.bytes.now c.args.call c.make.result c.args.self.now c.make.new.self c.make.ensures.performed.law

pub returns-clause-page_laws : goal.returns-clause-page_laws
returns-clause-page_laws g c = λ p cs said h.
    laws_more g.V.CoinsView g.C.SpendCondition p c.args.bytes.now cs said c.args.call c.make.result c.args.self.now c.make.new.self c.make.ensures.performed.law c.make.ensures.bottom h
