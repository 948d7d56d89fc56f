use Rattle.std.proofs.Common.{◌-◌, ◌<◌, ◌≤◌, length, Err, sym, refl, ap, ◌∙◌, arith}
use Rattle.std.proofs.lemmas.Result.{err_from_is_err_and}
use Rattle.undo.specs.Entries.{entries}
use Rattle.blockform.specs.Readers.{block_of}
use Rattle.connecting.specs.Rules.{checks, needs}
use Rattle.connecting.proofs.Worths.{checked_moneyed}
use Rattle.ledger.proofs.Performing.{unchanged}
use Rattle.ledger.proofs.Connects.{then_passed, then_stopped, checks_say, check_refused, full_refused, effect_refused, effect_accepted, refused_law, accepted_law}
use Rattle.ledger.proofs.Ledger.connect_block.Goals as goal

pub returns-in_err-needed-clause-law : goal.returns-in_err-needed-clause-law
returns-in_err-needed-clause-law g c =
    let v = g.V.CoinsView in
    let o = g.C.SpendCondition in
    let a = c.args.self.now in
    let q = c.args.chain in
    let b = block_of c.in_ok-block.block in
    let p = err_from_is_err_and c.from_residual-in_err-needed.result c.from_residual-in_err-needed.ensures.1 in
    let stop = then_stopped (checks q.tip.id q.tip.height q.terms.last b) (needs b) _ (sym c.in_err-needed.was ∙ c.check_block.ensures.is) in
    λ k s.
    let r = refused_law v o k a q c.requires.active s a c.args.bytes.now _ (unchanged v a a refl) (check_refused v o k a q c.requires.active s c.args.bytes.now b c.in_ok-block.ensures.reads _ stop) in
    (r.0, p.1 ∙ ap Err p.2 ∙ r.1)

pub returns-then-needed-free-clause-law : goal.returns-then-needed-free-clause-law
returns-then-needed-free-clause-law g c =
    let v = g.V.CoinsView in
    let o = g.C.SpendCondition in
    let a = c.args.self.now in
    let q = c.args.chain in
    let b = block_of c.in_ok-block.block in
    let pass = then_passed (checks q.tip.id q.tip.height q.terms.last b) (needs b) _ (sym c.in_ok-needed.was ∙ c.check_block.ensures.is) in
    let less : 512 - length (entries a.state.undo) < needs b = omega (arith, pass.1, c.free.ensures, c.if-needed-free.true) in
    λ k s.
    refused_law v o k a q c.requires.active s a c.args.bytes.now _ (unchanged v a a refl) (full_refused v o k a q c.requires.active s c.args.bytes.now b c.in_ok-block.ensures.reads pass.0 less)

pub apply-requires-clause-money : goal.apply-requires-clause-money
apply-requires-clause-money g c =
    let q = c.args.chain in
    let b = block_of c.in_ok-block.block in
    let pass = then_passed (checks q.tip.id q.tip.height q.terms.last b) (needs b) _ (sym c.in_ok-needed.was ∙ c.check_block.ensures.is) in
    checked_moneyed b.transactions tt (checks_say q.tip.id q.tip.height q.terms.last b pass.0).1

pub apply-requires-clause-room : goal.apply-requires-clause-room
apply-requires-clause-room g c =
    let q = c.args.chain in
    let b = block_of c.in_ok-block.block in
    let pass = then_passed (checks q.tip.id q.tip.height q.terms.last b) (needs b) _ (sym c.in_ok-needed.was ∙ c.check_block.ensures.is) in
    omega (arith, pass.1, c.free.ensures, c.if-needed-free.false, c.in_ok-needed.ensures.few)

pub returns-in_err-sums-clause-law : goal.returns-in_err-sums-clause-law
returns-in_err-sums-clause-law g c =
    let v = g.V.CoinsView in
    let o = g.C.SpendCondition in
    let a = c.args.self.now in
    let q = c.args.chain in
    let b = block_of c.in_ok-block.block in
    let p = err_from_is_err_and c.from_residual-in_err-sums.result c.from_residual-in_err-sums.ensures.1 in
    let pass = then_passed (checks q.tip.id q.tip.height q.terms.last b) (needs b) _ (sym c.in_ok-needed.was ∙ c.check_block.ensures.is) in
    let free : needs b ≤ 512 - length (entries a.state.undo) = omega (arith, pass.1, c.free.ensures, c.if-needed-free.false) in
    let e = c.in_err-sums.ensures in
    λ k s.
    let r = refused_law v o k a q c.requires.active s _ c.args.bytes.now _ (record { room = e.fixed; condition = refl; coins = e.value.1; active = refl; undo = e.value.2 }) (effect_refused v o k a q c.requires.active s c.args.bytes.now b c.in_ok-block.ensures.reads pass.0 free _ e.value.0) in
    (r.0, p.1 ∙ ap Err p.2 ∙ r.1)

pub returns-clause-law : goal.returns-clause-law
returns-clause-law g c =
    let v = g.V.CoinsView in
    let o = g.C.SpendCondition in
    let a = c.args.self.now in
    let q = c.args.chain in
    let b = block_of c.in_ok-block.block in
    let pass = then_passed (checks q.tip.id q.tip.height q.terms.last b) (needs b) _ (sym c.in_ok-needed.was ∙ c.check_block.ensures.is) in
    let say = checks_say q.tip.id q.tip.height q.terms.last b pass.0 in
    let free : needs b ≤ 512 - length (entries a.state.undo) = omega (arith, pass.1, c.free.ensures, c.if-needed-free.false) in
    let e = c.in_ok-sums.ensures in
    λ k s.
    let f = effect_accepted v o k a q c.requires.active s c.args.bytes.now b c.in_ok-block.ensures.reads pass.0 free _ _ e.value in
    accepted_law v o k a q c.requires.active s _ _ c.args.bytes.now b _ _ f.0 f.1 say.0 e.fixed refl refl refl refl c.id-id.ensures refl refl e.kept.0 e.kept.1
