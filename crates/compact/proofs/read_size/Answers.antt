use Rattle.std.proofs.Common.{◌≡◌, ◌≤◌, length, get_or, drop, Ok, Err, sym, ◌∙◌, arith, rules}
use Rattle.compact.specs.declared.SizeFault.TheVariants.{Cut}
use Rattle.compact.specs.Compact.{read_size}
use Rattle.compact.proofs.Parts.{rest_is}
use Rattle.compact.proofs.Laws.{Marked, answers, reads, read_is_written, refused}
use Rattle.compact.proofs.read_size.Goals as goal

pub returns-in-255 : goal.returns-in-255
returns-in-255 c =
    let s = c.args.s.now in
    let l : 9 ≤ length s = search rules in
    let m : get_or s 0 0 ≡ 255 = search rules in
    let f : Marked s 9 4294967296 c.from_le_bytes-n.result = record { long = rw m; least_is = rw m; is = rw m (sym c.from_le_bytes-n.ensures) } in
    let h = answers s 9 4294967296 c.from_le_bytes-n.result _ c.shortest.result f l (rest_is 9 s) c.shortest.ensures in
    record { answer = h; reads = reads s c.shortest.result (λ i. omega (arith, c.type_inv.s i)) h }

pub returns-in-254 : goal.returns-in-254
returns-in-254 c =
    let s = c.args.s.now in
    let l : 5 ≤ length s = search rules in
    let m : get_or s 0 0 ≡ 254 = search rules in
    let f : Marked s 5 65536 c.from.result = record { long = rw m; least_is = rw m; is = rw m (sym (c.from.ensures ∙ c.from_le_bytes-n-in-254.ensures)) } in
    let h = answers s 5 65536 c.from.result _ c.shortest-in-254.result f l (rest_is 5 s) c.shortest-in-254.ensures in
    record { answer = h; reads = reads s c.shortest-in-254.result (λ i. omega (arith, c.type_inv.s i)) h }

pub returns-in-253 : goal.returns-in-253
returns-in-253 c =
    let s = c.args.s.now in
    let l : 3 ≤ length s = search rules in
    let m : get_or s 0 0 ≡ 253 = search rules in
    let f : Marked s 3 253 c.from-in-253.result = record { long = rw m; least_is = rw m; is = rw m (sym (c.from-in-253.ensures ∙ c.from_le_bytes-n-in-253.ensures)) } in
    let h = answers s 3 253 c.from-in-253.result _ c.shortest-in-253.result f l (rest_is 3 s) c.shortest-in-253.ensures in
    record { answer = h; reads = reads s c.shortest-in-253.result (λ i. omega (arith, c.type_inv.s i)) h }

pub returns-in-len1-up : goal.returns-in-len1-up
unfolding read_size
returns-in-len1-up c =
    let s = c.args.s.now in
    let h : read_size s ≡ Ok (c.from-in-len1-up.result, drop 1 s) = search rules in
    rw (rest_is 1 s) (record { answer = h; reads = sym (read_is_written s _ _ (λ i. omega (arith, c.type_inv.s i)) h) })

pub returns-in-253-to-255 : goal.returns-in-253-to-255
unfolding read_size
returns-in-253-to-255 c =
    let s = c.args.s.now in
    let h : read_size s ≡ Err Cut = search rules in
    record { answer = h; reads = refused s Cut h }
