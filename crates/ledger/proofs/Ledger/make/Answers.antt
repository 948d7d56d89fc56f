use Rattle.std.proofs.Common.{◌≡◌, min, is_ok, Ok, ap, ◌∙◌, refl, subst}
use Rattle.coinsview.specs.Meaning.{coin_at, next_in}
use Rattle.ledger.specs.declared.runs.Call.TheVariants as call
use Rattle.ledger.specs.Book.{connected, connect_answer, disconnected, disconnect_answer, settled, tip_of, coins_of, held_by}
use Rattle.ledger.specs.Pages.{from_book, start_on}
use Rattle.ledger.specs.Runs.{part}
use Rattle.ledger.specs.Standing.{Stands}
use Rattle.ledger.proofs.Books.{clash}
use Rattle.ledger.proofs.Performing.{unchanged, on_page, on_same_page, kept_on_page, start_on_page, performs}
use Rattle.ledger.proofs.Ledger.make.Goals as goal

pub returns-in-Start-clause-performed : goal.returns-in-Start-clause-performed
returns-in-Start-clause-performed g c =
    let v = g.V.CoinsView in
    let o = g.C.SpendCondition in
    let a = c.args.self.now in
    let z = c.start.new.self in
    let r = c.start.result in
    let e = c.start.ensures in
    performs v o c.args.bytes.now _ (call.Start c.in-Start.parameters _) r (λ p. start_on p c.in-Start.parameters) a z c.in-Start.is (λ p. refl)
    (start_on_page v o c.in-Start.parameters _ a z r e.answer e.same e.begins)
    (λ p s h. unchanged v a z (e.same h))

pub returns-in-Connect-clause-performed : goal.returns-in-Connect-clause-performed
returns-in-Connect-clause-performed g c =
    let v = g.V.CoinsView in
    let o = g.C.SpendCondition in
    let a = c.args.self.now in
    let z = c.connect.new.self in
    let r = c.connect.result in
    let e = c.connect.ensures in
    performs v o c.args.bytes.now _ (call.Connect c.in-Connect.from c.in-Connect.to) r (from_book (λ k. connect_answer k (part c.in-Connect.from c.in-Connect.to c.args.bytes.now))) a z c.in-Connect.is (λ p. refl)
    (on_page v o a z r (λ k. connected k (part c.in-Connect.from c.in-Connect.to c.args.bytes.now)) (λ k. connect_answer k (part c.in-Connect.from c.in-Connect.to c.args.bytes.now)) e.early (λ k t. subst (λ b. Stands v o (connected k b) z × (r ≡ connect_answer k b)) c.part.ensures (e.law k t)))
    (λ p s h. e.same h)

pub returns-in-Disconnect-clause-performed : goal.returns-in-Disconnect-clause-performed
returns-in-Disconnect-clause-performed g c =
    let v = g.V.CoinsView in
    let o = g.C.SpendCondition in
    let a = c.args.self.now in
    let z = c.disconnect.new.self in
    let r = c.disconnect.result in
    let e = c.disconnect.ensures in
    performs v o c.args.bytes.now _ call.Disconnect r (from_book disconnect_answer) a z c.in-Disconnect.is (λ p. refl)
    (on_page v o a z r disconnected disconnect_answer e.early e.law)
    (kept_on_page v o a z r e.early e.same)

pub returns-in-Settle-clause-performed : goal.returns-in-Settle-clause-performed
returns-in-Settle-clause-performed g c =
    let v = g.V.CoinsView in
    let o = g.C.SpendCondition in
    let a = c.args.self.now in
    let z = c.settle.new.self in
    let r = c.settle.result in
    let e = c.settle.ensures in
    performs v o c.args.bytes.now _ (call.Settle c.in-Settle.n) r (from_book (λ k. Ok (min c.in-Settle.n k.kept))) a z c.in-Settle.is (λ p. refl)
    (on_page v o a z r (λ k. settled k c.in-Settle.n) (λ k. Ok (min c.in-Settle.n k.kept)) e.early e.law)
    (kept_on_page v o a z r e.early (λ k s h. clash (is_ok r) (ap is_ok (e.law k s).1) h))

pub returns-in-Flush-clause-performed : goal.returns-in-Flush-clause-performed
returns-in-Flush-clause-performed g c =
    let v = g.V.CoinsView in
    let o = g.C.SpendCondition in
    let a = c.args.self.now in
    let z = c.flush.new.self in
    let r = c.flush.result in
    let e = c.flush.ensures in
    performs v o c.args.bytes.now _ call.Flush r (from_book (λ k. Ok tt)) a z c.in-Flush.is (λ p. refl)
    (on_same_page v o a z r (λ k. Ok tt) e.early e.law)
    (λ p s h. e.same)

pub returns-in-Tip-clause-performed : goal.returns-in-Tip-clause-performed
returns-in-Tip-clause-performed g c =
    let v = g.V.CoinsView in
    let o = g.C.SpendCondition in
    let a = c.args.self.now in
    let z = a in
    let r = c.tip.result in
    let e = c.tip.ensures in
    performs v o c.args.bytes.now _ call.Tip r (from_book (λ k. Ok (tip_of k))) a z c.in-Tip.is (λ p. refl)
    (on_same_page v o a z r (λ k. Ok (tip_of k)) e.early e.law)
    (λ p s h. unchanged v a a refl)

pub returns-in-Look-clause-performed : goal.returns-in-Look-clause-performed
returns-in-Look-clause-performed g c =
    let v = g.V.CoinsView in
    let o = g.C.SpendCondition in
    let a = c.args.self.now in
    let z = c.look.new.self in
    let r = c.look.result in
    let e = c.look.ensures in
    performs v o c.args.bytes.now _ (call.Look c.in-Look.at) r (from_book (λ k. Ok (coin_at c.in-Look.at (coins_of k)))) a z c.in-Look.is (λ p. refl)
    (on_same_page v o a z r (λ k. Ok (coin_at c.in-Look.at (coins_of k))) e.early e.law)
    (λ p s h. e.same)

pub returns-in-Next-clause-performed : goal.returns-in-Next-clause-performed
returns-in-Next-clause-performed g c =
    let v = g.V.CoinsView in
    let o = g.C.SpendCondition in
    let a = c.args.self.now in
    let z = c.next.new.self in
    let r = c.next.result in
    let e = c.next.ensures in
    performs v o c.args.bytes.now _ (call.Next c.in-Next.from) r (from_book (λ k. Ok (next_in c.in-Next.from (coins_of k)))) a z c.in-Next.is (λ p. refl)
    (on_same_page v o a z r (λ k. Ok (next_in c.in-Next.from (coins_of k))) e.early (λ k t. let y = e.law k t in (y.0, y.1 ∙ ap (λ f. Ok (next_in f (coins_of k))) c.as_ref.ensures.value)))
    (λ p s h. e.same)

pub returns-in-Balance-clause-performed : goal.returns-in-Balance-clause-performed
returns-in-Balance-clause-performed g c =
    let v = g.V.CoinsView in
    let o = g.C.SpendCondition in
    let a = c.args.self.now in
    let z = c.balance.new.self in
    let r = c.balance.result in
    let e = c.balance.ensures in
    performs v o c.args.bytes.now _ (call.Balance c.in-Balance.lock) r (from_book (λ k. Ok (held_by c.in-Balance.lock (coins_of k)))) a z c.in-Balance.is (λ p. refl)
    (on_same_page v o a z r (λ k. Ok (held_by c.in-Balance.lock (coins_of k))) e.early e.law)
    (λ p s h. e.same)
