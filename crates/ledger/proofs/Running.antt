-- One call more. Assumes nothing.
use Rattle.std.proofs.Common.{◌≡◌, ℕ, ◌+◌, ◌<◌, true, List, [], ◌∷◌, ◌++◌, length, get_or, take, set, sym, refl, ap, ◌∙◌, subst, arith}
use Rattle.std.proofs.lemmas.List.{take_more, take_more_set}
use Rattle.coinsview.specs.declared.view.CoinsView.{Ghosts as ViewGhosts}
use Rattle.views.specs.declared.condition.SpendCondition.{Ghosts as ConditionGhosts}
use Rattle.connecting.specs.Value.{value_in}
use Rattle.ledger.specs.declared.Ledger.{Ledger}
use Rattle.ledger.specs.declared.runs.Call.{Call}
use Rattle.ledger.specs.declared.runs.Call.TheVariants as call
use Rattle.ledger.specs.declared.runs.Answer.{Answer}
use Rattle.ledger.specs.Book.{Book, all_burned}
use Rattle.ledger.specs.Standing.{started, Stands, Follows}
use Rattle.ledger.specs.Runs.{book_after, answer_of, books_after, answers_of}
use Rattle.ledger.specs.Laws.{is_flush, ends_in_flush, Laws}
use Rattle.ledger.proofs.Books.{replay_value, none_kept, some_kept, some_then, stands_started}

books_more : (bytes : List ℕ) (cs : List Call) (x : Call) (k : Book) → books_after bytes (cs ++ (x ∷ [])) k ≡ book_after bytes x (books_after bytes cs k)
books_more bytes [] x k = refl
books_more bytes (c ∷ cs) x k = books_more bytes cs x (book_after bytes c k)

answers_more : (bytes : List ℕ) (cs : List Call) (x : Call) (k : Book) → answers_of bytes (cs ++ (x ∷ [])) k ≡ answers_of bytes cs k ++ (answer_of bytes x (books_after bytes cs k) ∷ [])
answers_more bytes [] x k = refl
answers_more bytes (c ∷ cs) x k = ap (λ l. answer_of bytes c k ∷ l) (answers_more bytes cs x (book_after bytes c k))

pub ends_more : (cs : List Call) (x : Call) → ends_in_flush (cs ++ (x ∷ [])) ≡ is_flush x
ends_more [] x = refl
ends_more (c ∷ []) x = refl
ends_more (c ∷ (d ∷ cs)) x = ends_more (d ∷ cs) x

pub flush_is : (x : Call) → is_flush x ≡ true → x ≡ call.Flush
flush_is (call.Start x id) e = absurd (let z : ◌≡◌ {A = ℕ} 0 1 = cc in omega arith)
flush_is (call.Connect from to) e = absurd (let z : ◌≡◌ {A = ℕ} 0 1 = cc in omega arith)
flush_is call.Disconnect e = absurd (let z : ◌≡◌ {A = ℕ} 0 1 = cc in omega arith)
flush_is (call.Settle n) e = absurd (let z : ◌≡◌ {A = ℕ} 0 1 = cc in omega arith)
flush_is call.Flush e = refl
flush_is call.Tip e = absurd (let z : ◌≡◌ {A = ℕ} 0 1 = cc in omega arith)
flush_is (call.Look at) e = absurd (let z : ◌≡◌ {A = ℕ} 0 1 = cc in omega arith)
flush_is (call.Next from) e = absurd (let z : ◌≡◌ {A = ℕ} 0 1 = cc in omega arith)
flush_is (call.Balance lock) e = absurd (let z : ◌≡◌ {A = ℕ} 0 1 = cc in omega arith)

-- what lasts from call to call
pub record Runs {V C : Type 0} (v : ViewGhosts V) (c : ConditionGhosts C) (k : Book) (bytes : List ℕ) (cs : List Call) (said : List Answer) (l : Ledger V C) : Type 0 where
  pub stands : Stands v c (books_after bytes cs k) l
  pub answers : said ≡ answers_of bytes cs k
  pub flushed : ends_in_flush cs ≡ true → v.bottom l.state.view ≡ v.coins l.state.view

module _ {V C : Type 0} (v : ViewGhosts V) (c : ConditionGhosts C) (k : Book) (bytes : List ℕ) where
  pub runs_none : (cs : List Call) (said : List Answer) (l : Ledger V C) → Stands v c k l → Runs v c k bytes (take 0 cs) (take 0 said) l
  runs_none cs said l s = record { stands = s; answers = refl; flushed = λ h. absurd (let z : ◌≡◌ {A = ℕ} 0 1 = cc in omega arith) }

  pub runs_more : (cs : List Call) (said : List Answer) (i : ℕ) (d : Call) (x : Answer) (a z : Ledger V C) → i < length cs → i < length said → Runs v c k bytes (take i cs) (take i said) a
      → Follows v c a z x (book_after bytes (get_or cs i d)) (answer_of bytes (get_or cs i d)) → (get_or cs i d ≡ call.Flush → started a ≡ true → v.bottom z.state.view ≡ v.coins z.state.view)
      → Runs v c k bytes (take (i + 1) cs) (take (i + 1) (set said i x)) z
  runs_more cs said i d x a z h g r f b =
      let p = f (books_after bytes (take i cs) k) r.stands in
      let one : take (i + 1) cs ≡ take i cs ++ (get_or cs i d ∷ []) = take_more cs i d h in
      let same : books_after bytes (take (i + 1) cs) k ≡ book_after bytes (get_or cs i d) (books_after bytes (take i cs) k) = ap (λ l. books_after bytes l k) one ∙ books_more bytes (take i cs) (get_or cs i d) k in
      record {
        stands = subst (λ y. Stands v c y z) (sym same) p.0;
        answers = take_more_set said i x g ∙ ap (λ l. l ++ (x ∷ [])) r.answers ∙ ap (λ y. answers_of bytes (take i cs) k ++ (y ∷ [])) p.1 ∙ sym (ap (λ l. answers_of bytes l k) one ∙ answers_more bytes (take i cs) (get_or cs i d) k);
        flushed = λ e. b (flush_is (get_or cs i d) (sym (ap ends_in_flush one ∙ ends_more (take i cs) (get_or cs i d)) ∙ e)) (stands_started v c (books_after bytes (take i cs) k) a r.stands);
      }

  pub runs_laws : (cs : List Call) (said : List Answer) (l : Ledger V C) → Runs v c k bytes cs said l → Laws v c k bytes cs said l
  runs_laws cs said l r =
      let b = books_after bytes cs k in
      let s = r.stands in
      record {
        stands = s;
        coins = s.coins;
        answers = r.answers;
        values = ap (λ m. value_in m + all_burned b.terms b.blocks) s.coins ∙ (replay_value b.terms b.blocks s.accepted).0;
        refused = none_kept b.blocks b.kept;
        granted = λ e. some_then l.active s.active (λ h t. some_kept b.blocks b.kept h.tip.height t.height e);
        flushed = r.flushed;
      }
