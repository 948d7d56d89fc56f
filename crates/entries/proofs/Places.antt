-- Entries changed at their place.
use Rattle.std.proofs.Common.{◌≡◌, ℕ, [], ◌∷◌, length, get_or, set, Some, Ok, Err, Result, sym, refl, ap, ◌∙◌, subst, arith}
use Rattle.std.specs.List.{insert, remove}
use Rattle.coins.specs.declared.outpoint.Outpoint.{Outpoint}
use Rattle.maps.specs.Maps.{Sorted}
use Rattle.maps.proofs.Laws.{insert_place, remove_place, sorted_insert, sorted_remove}
use Rattle.maps.proofs.Layered.{set_place, key_place}
use Rattle.maps.specs.Keyed.{outpoints}
use Rattle.entries.specs.declared.table.Entry.{Entry}
use Rattle.maps.specs.Search.{Found}
use Rattle.entries.specs.Entries.{Entries, entry_at, with_entry, without_entry}

-- an entry that was found is there
there : (k : Outpoint) (es : Entries) (i : ℕ) → Found outpoints k es (Ok i) → (entry : Entry) × (entry_at k es ≡ Some entry)
there k es i f = go es refl
  where
    go : (xs : Entries) → xs ≡ es → (entry : Entry) × (entry_at k es ≡ Some entry)
    go [] e = absurd (omega (arith, ap length e, f.1))
    go (x ∷ xs) e = (_, f.2 x)

pub there_at : (k : Outpoint) (es : Entries) (p : Result ℕ ℕ) (i : ℕ) → p ≡ Ok i → Found outpoints k es p → (entry : Entry) × (entry_at k es ≡ Some entry)
there_at k es p i e f = there k es i (subst (Found outpoints k es) e f)

pub added_at : (k : Outpoint) (e : Entry) (es : Entries) (i : ℕ) → Found outpoints k es (Err i) → insert es i (k, e) ≡ with_entry k e es
added_at k e es i f = ap (λ j. insert es j (k, e)) f.0 ∙ sym (insert_place outpoints k e es f.2)

pub removed_at : (k : Outpoint) (es : Entries) (i : ℕ) → Found outpoints k es (Ok i) → remove es i ≡ without_entry k es
removed_at k es i f = ap (remove es) f.0 ∙ (let t = there k es i f in sym (remove_place outpoints k t.0 es t.1))

pub set_at : (k : Outpoint) (e : Entry) (es : Entries) (i : ℕ) (z : Outpoint × Entry) → Found outpoints k es (Ok i) → z ≡ get_or es i z → set es i (z.0, e) ≡ with_entry k e es
set_at k e es i z f r =
    let t = there k es i f in
    let key : z.0 ≡ k = ap (λ x. x.0) r ∙ ap (λ j. (get_or es j z).0) f.0 ∙ key_place outpoints k t.0 es z t.1 in
    ap (λ q. set es i (q, e)) key ∙ ap (λ j. set es j (k, e)) f.0 ∙ set_place outpoints k e t.0 es t.1

-- what one write leaves is in order
pub sorted_with : (k : Outpoint) (e : Entry) (es new : Entries) → new ≡ with_entry k e es → Sorted outpoints es → Sorted outpoints new
sorted_with k e es new h s = subst (Sorted outpoints) (sym h) (sorted_insert outpoints k e es s)

pub sorted_without : (k : Outpoint) (es new : Entries) → new ≡ without_entry k es → Sorted outpoints es → Sorted outpoints new
sorted_without k es new h s = subst (Sorted outpoints) (sym h) (sorted_remove outpoints k es s)
