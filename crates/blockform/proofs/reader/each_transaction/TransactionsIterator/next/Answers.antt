use Rattle.std.proofs.Common.{Some, None, ◌≡◌, ◌+◌, ◌*◌, get_or, is_ok, refl, ap, ◌∙◌, arith}
use Rattle.blockbytes.specs.Form.{times, output, transaction}
use Rattle.blockbytes.specs.Value.{spends, makes}
use Rattle.blockbytes.specs.Places.{list_at, input_at, input_end, inputs_end, output_at, output_end, transaction_at, transaction_end}
use Rattle.blockform.specs.Readers.{items_of, next_item, transactions_of, next_transaction, items_good}
use Rattle.blockbytes.proofs.Steps.{list_none, list_taken, times_taken, map_list, transaction_ends}
use Rattle.blockform.proofs.Walk.{next_found, inputs_long, transaction_long}
use Rattle.blockform.proofs.Nearer.{nearer}
use Rattle.blockform.proofs.reader.each_transaction.TransactionsIterator.next.Goals as goal

pub returns-then-self-eq0 : goal.returns-then-self-eq0
unfolding transactions_of
returns-then-self-eq0 c =
    let r = c.args.self.now in
    let e = list_none (transaction_at r.block.now) (transaction_end r.block.now) r.left r.place c.if-self-eq0.true in
    record { steps = (e, e); goes = nearer transactions_of _ _ None tt }

pub array_at-id-requires : goal.array_at-id-requires
array_at-id-requires c = omega (arith, (next_found c.args.self.now c.if-self-eq0.false).id)

pub overflow_add-inputs : goal.overflow_add-inputs
overflow_add-inputs c = omega (arith, (next_found c.args.self.now c.if-self-eq0.false).id)

pub overflow_add-count : goal.overflow_add-count
overflow_add-count c = omega (arith, (next_found c.args.self.now c.if-self-eq0.false).id)

pub bounds-block-count : goal.bounds-block-count
bounds-block-count c = omega (arith, (next_found c.args.self.now c.if-self-eq0.false).id)

pub past_inputs-end-requires : goal.past_inputs-end-requires
past_inputs-end-requires c = (next_found c.args.self.now c.if-self-eq0.false).ins

pub overflow_add-outputs : goal.overflow_add-outputs
overflow_add-outputs c = omega (arith, c.past_inputs-end.ensures, (next_found c.args.self.now c.if-self-eq0.false).mid)

pub bounds-block-end : goal.bounds-block-end
bounds-block-end c = omega (arith, c.past_inputs-end.ensures, (next_found c.args.self.now c.if-self-eq0.false).mid)

pub overflow_add-self : goal.overflow_add-self
overflow_add-self c =
    let f = next_found c.args.self.now c.if-self-eq0.false in
    let e = c.past_inputs-end.ensures in
    let g = ap (λ k. get_or c.args.self.now.block.now k 0) e in
    omega (arith, f.inside)

pub invariant_of-inputs : goal.invariant_of-inputs
invariant_of-inputs c =
    let f = next_found c.args.self.now c.if-self-eq0.false in
    record { few = f.few_in; good = f.ins }

pub invariant_of-outputs : goal.invariant_of-outputs
invariant_of-outputs c =
    let b = c.args.self.now.block.now in
    let f = next_found c.args.self.now c.if-self-eq0.false in
    let mid = c.past_inputs-end.ensures in
    let m = ap (λ k. get_or b k 0) mid in
    record { few = omega (arith, f.few_out); good = ap (λ k. is_ok (times (get_or b k 0) (output b) (k + 1))) mid ∙ f.outs }

pub invariant_of-self : goal.invariant_of-self
invariant_of-self c =
    let r = c.args.self.now in
    let b = r.block.now in
    let f = next_found r c.if-self-eq0.false in
    let m = ap (λ k. get_or b k 0) c.past_inputs-end.ensures in
    let end : c.past_inputs-end.result + 1 + 17 * get_or b c.past_inputs-end.result 0 ≡ transaction_end b r.place = omega (arith, f.end) in
    record { few = omega arith; good = times_taken (transaction b) (transaction_end b) (transaction_ends b) r.left r.place _ (omega arith) end r.good }

pub returns : goal.returns
unfolding transactions_of items_of next_item next_transaction
returns c =
    let r = c.args.self.now in
    let b = r.block.now in
    let at = r.place in
    let f = next_found r c.if-self-eq0.false in
    let mid : c.past_inputs-end.result ≡ inputs_end b at = c.past_inputs-end.ensures in
    let m = ap (λ k. get_or b k 0) mid in
    let end : c.past_inputs-end.result + 1 + 17 * get_or b c.past_inputs-end.result 0 ≡ transaction_end b at = omega (arith, f.end) in
    let taken = list_taken (transaction_at b) (transaction_end b) r.left at _ _ (omega arith) refl end in
    record {
      steps = (
        transaction_at b at,
        record {
          id = c.array_at-id.ensures;
          first_input = omega arith;
          first_output = ap (λ k. k + 1) (mid ∙ inputs_long b r.left at f);
          inputs = map_list spends (input_at b) (input_end b) (get_or b (at + 32) 0) (at + 32 + 1);
          outputs = ap (λ k. list_at (get_or b k 0) (λ i. makes (output_at b i)) output_end (k + 1)) mid ∙ map_list makes (output_at b) output_end (get_or b (inputs_end b at) 0) (inputs_end b at + 1);
          good_inputs = items_good _;
          good_outputs = items_good _;
        },
        taken,
        end ∙ transaction_long b r.left at f,
        refl,
      );
      goes = nearer transactions_of _ _ (Some _) (_, taken);
    }
