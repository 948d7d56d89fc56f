use Rattle.std.proofs.Common.{◌+◌, length, is_ok, sym, ap, ◌∙◌, subst, arith}
use Rattle.blockbytes.specs.Form.{input, output}
use Rattle.blockform.specs.Kinds.{item}
use Rattle.blockbytes.proofs.Steps.{ok_of, ok_is, input_ok, output_ok}
use Rattle.blockform.specs.Kinds.{item_at, item_end}
use Rattle.blockbytes.specs.Value.{encode_piece, PieceWithin}
use Rattle.blockbytes.proofs.Encoding.{input_codec, output_codec, input_long, output_long}
use Rattle.blockform.proofs.reader.fields.item.Goals as goal

pub input-requires : goal.input-requires
input-requires c =
    let b = c.args.b.now in
    let o = ok_of (input b c.args.at) (ap (λ k. is_ok (item k b c.args.at)) (sym c.in-Input.is) ∙ c.requires) in
    (input_ok b c.args.at o.0 o.1).inside

pub output-requires : goal.output-requires
output-requires c =
    let b = c.args.b.now in
    let o = ok_of (output b c.args.at) (ap (λ k. is_ok (item k b c.args.at)) (sym c.in-Output.is) ∙ c.requires) in
    (output_ok b c.args.at o.0 o.1).1

pub returns-in-Input : goal.returns-in-Input
returns-in-Input c =
    let b = c.args.b.now in
    let at = c.args.at in
    let t = sym c.in-Input.is in
    let o = ok_of (input b at) (ap (λ k. is_ok (item k b at)) t ∙ c.requires) in
    let s = (input_codec b).sound at o.0 (λ i. omega (arith, c.type_inv.b i)) o.1 in
    let p = c.input.ensures.piece in
    record {
      piece = p ∙ ap (λ k. item_at k b at) t;
      offset = c.input.ensures.offset;
      end = c.input.ensures.end ∙ ap (λ k. item_end k b at) t;
      within = subst PieceWithin (sym p) s.0;
      long = c.input.ensures.end ∙ input_long b at (ok_is _ _ o.1) ∙ ap (λ x. at + length (encode_piece x)) (sym p);
    }

pub returns-in-Output : goal.returns-in-Output
returns-in-Output c =
    let b = c.args.b.now in
    let at = c.args.at in
    let t = sym c.in-Output.is in
    let o = ok_of (output b at) (ap (λ k. is_ok (item k b at)) t ∙ c.requires) in
    let s = (output_codec b).sound at o.0 (λ i. omega (arith, c.type_inv.b i)) o.1 in
    let p = c.output.ensures.piece in
    record {
      piece = p ∙ ap (λ k. item_at k b at) t;
      offset = c.output.ensures.offset;
      end = c.output.ensures.end ∙ ap (λ k. item_end k b at) t;
      within = subst PieceWithin (sym p) s.0;
      long = c.output.ensures.end ∙ output_long b at ∙ ap (λ x. at + length (encode_piece x)) (sym p);
    }
