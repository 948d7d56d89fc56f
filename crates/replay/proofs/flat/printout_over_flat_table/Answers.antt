use Rattle.std.proofs.Common.{◌≡◌, min, List, [], length, Ok, Err, Result, ◌∙◌, subst, arith}
use Rattle.std.specs.Prelude.{OnOk}
use Rattle.coinsview.specs.Table.{table_view}
use Rattle.cache.specs.Parts.{cache_view}
use Rattle.ledger.specs.declared.runs.Answer.{Answer}
use Rattle.ledger.specs.PageLaws.{PageLaws}
use Rattle.ledger.specs.Pages.{unstarted, At}
use Rattle.ledger.proofs.PageRunning.{laws_none}
use Rattle.replay.specs.Flat.{FlatLedger, opens_either, badge_or_clock, first_page}
use Rattle.replay.specs.PageTurns.{script_calls, RunsOn}
use Rattle.replay.proofs.flat.printout_over_flat_table.Goals as goal

-- what a fact gives, where it holds of an answer
so : {T E : Type 0} (r : Result T E) (P Q : Type 0) → (P → Q) → OnOk r P → OnOk r Q
so (Ok x) P Q f h = f h
so (Err e) P Q f h = h

pub returns : goal.returns
returns c =
    let table = c.new.ensures.means in
    let view = c.new-view.ensures.means in
    let long : min (length c.deref_mut.result.now) 4096 ≡ 512 = omega (arith, c.deref_mut.ensures.len, c.in_ok-cells.ensures.len) in
    let most : (cache_view table_view).most c.new-view.result ≡ 512 = view.most ∙ table.most ∙ long in
    let coins : (cache_view table_view).coins c.new-view.result ≡ [] = view.coins ∙ table.coins in
    let l : FlatLedger = c.new-ledger.result in
    let begun : At (cache_view table_view) badge_or_clock first_page l =
    subst (λ n. At (cache_view table_view) badge_or_clock (unstarted n opens_either []) l) most
    (subst (λ m. At (cache_view table_view) badge_or_clock (unstarted ((cache_view table_view).most c.new-view.result) opens_either m) l) coins c.new-ledger.ensures.page) in
    let bytes = c.args.blocks.now in
    let calls = script_calls bytes c.args.script.now in
    let z : FlatLedger = c.printout_of.new.ledger in
    let e = c.printout_of.ensures in
    record {
      text = e.text;
      page = e.page first_page begun;
      laws = so c.printout_of.result (RunsOn (cache_view table_view) badge_or_clock bytes calls l z) ((x : FlatLedger) × (said : List Answer) × (cache_view table_view).ok x.state.view × PageLaws (cache_view table_view) badge_or_clock first_page bytes calls said x)
          (λ run. let w = run first_page [] [] (laws_none (cache_view table_view) badge_or_clock first_page bytes l begun) in (z, w.0, e.ok, w.1)) e.laws;
    }
