-- One call more, on any page. Assumes nothing.
use Rattle.std.proofs.Common.{◌≡◌, ℕ, ◌+◌, ◌<◌, true, List, [], ◌∷◌, ◌++◌, length, get_or, take, set, sym, refl, ap, ◌∙◌, subst, arith}
use Rattle.std.proofs.lemmas.List.{take_more, take_more_set}
use Rattle.coinsview.specs.declared.view.CoinsView.{Ghosts as ViewGhosts}
use Rattle.views.specs.declared.condition.SpendCondition.{Ghosts as ConditionGhosts}
use Rattle.connecting.specs.Value.{value_in}
use Rattle.ledger.specs.declared.Ledger.{Ledger}
use Rattle.ledger.specs.declared.runs.Call.{Call}
use Rattle.ledger.specs.declared.runs.Call.TheVariants as call
use Rattle.ledger.specs.declared.runs.Answer.{Answer}
use Rattle.ledger.specs.declared.runs.Answer.TheVariants as answer
use Rattle.ledger.specs.Book.{Book, all_burned}
use Rattle.ledger.specs.Standing.{started, Stands, Follows}
use Rattle.ledger.specs.Runs.{book_after, answer_of}
use Rattle.ledger.specs.Pages.{Page, unstarted, standing, At, page_after, answer_on, pages_after, answers_on}
use Rattle.ledger.specs.Laws.{ends_in_flush}
use Rattle.ledger.specs.PageLaws.{BookLaws, PageLaws}
use Rattle.ledger.proofs.Running.{ends_more, flush_is}
use Rattle.ledger.proofs.Books.{replay_value, none_kept, some_kept, some_then, stands_started}

pages_more : (bytes : List ℕ) (cs : List Call) (x : Call) (p : Page) → pages_after bytes (cs ++ (x ∷ [])) p ≡ page_after bytes x (pages_after bytes cs p)
pages_more bytes [] x p = refl
pages_more bytes (c ∷ cs) x p = pages_more bytes cs x (page_after bytes c p)

answers_more : (bytes : List ℕ) (cs : List Call) (x : Call) (p : Page) → answers_on bytes (cs ++ (x ∷ [])) p ≡ answers_on bytes cs p ++ (answer_on bytes x (pages_after bytes cs p) ∷ [])
answers_more bytes [] x p = refl
answers_more bytes (c ∷ cs) x p = ap (λ l. answer_on bytes c p ∷ l) (answers_more bytes cs x (page_after bytes c p))

-- on a book a page's call is the book's
pub page_book : (bytes : List ℕ) (x : Call) (k : Book) → (page_after bytes x (standing k) ≡ standing (book_after bytes x k)) × (answer_on bytes x (standing k) ≡ answer_of bytes x k)
page_book bytes (call.Start x id) k = (refl, refl)
page_book bytes (call.Connect from to) k = (refl, refl)
page_book bytes call.Disconnect k = (refl, refl)
page_book bytes (call.Settle n) k = (refl, refl)
page_book bytes call.Flush k = (refl, refl)
page_book bytes call.Tip k = (refl, refl)
page_book bytes (call.Look at) k = (refl, refl)
page_book bytes (call.Next from) k = (refl, refl)
page_book bytes (call.Balance lock) k = (refl, refl)

-- a started ledger stays so
stays_all : (bytes : List ℕ) (cs : List Call) (p : Page) (k : Book) → p ≡ standing k → (b : Book) × (pages_after bytes cs p ≡ standing b)
stays_all bytes [] p k e = (k, e)
stays_all bytes (c ∷ cs) p k e =
    stays_all bytes cs (page_after bytes c p) (book_after bytes c k) (ap (page_after bytes c) e ∙ (page_book bytes c k).0)

module _ {V C : Type 0} (v : ViewGhosts V) (c : ConditionGhosts C) where
  book_laws : (b : Book) (bytes : List ℕ) (cs : List Call) (l : Ledger V C) → Stands v c b l → (ends_in_flush cs ≡ true → v.bottom l.state.view ≡ v.coins l.state.view) → BookLaws v c b bytes cs l
  book_laws b bytes cs l s f =
      record {
        coins = s.coins;
        values = ap (λ m. value_in m + all_burned b.terms b.blocks) s.coins ∙ (replay_value b.terms b.blocks s.accepted).0;
        refused = λ e. ap answer.Disconnect (none_kept b.blocks b.kept e);
        granted = λ e. some_then l.active s.active (λ h t. ap answer.Disconnect (some_kept b.blocks b.kept h.tip.height t.height e));
        flushed = f;
      }

  page_laws : (q : Page) (bytes : List ℕ) (cs : List Call) (l : Ledger V C) → At v c q l → (started l ≡ true → ends_in_flush cs ≡ true → v.bottom l.state.view ≡ v.coins l.state.view) → (b : Book) → q ≡ standing b → BookLaws v c b bytes cs l
  page_laws q bytes cs l s f b e = let t : Stands v c b l = subst (λ x. At v c x l) e s in book_laws b bytes cs l t (f (stands_started v c b l t))

  -- a call that does what the page says follows the book
  pub follows_book : (bytes : List ℕ) (x : Call) (r : Answer) (a z : Ledger V C) → ((p : Page) → At v c p a → At v c (page_after bytes x p) z × (r ≡ answer_on bytes x p)) → Follows v c a z r (book_after bytes x) (answer_of bytes x)
  follows_book bytes x r a z law k s =
      let one = law (standing k) s in
      let same = page_book bytes x k in
      (subst (λ y. At v c y z) same.0 one.0, one.1 ∙ same.1)

  -- before any call
  pub laws_none : (p : Page) (bytes : List ℕ) (l : Ledger V C) → At v c p l → PageLaws v c p bytes [] [] l
  laws_none p bytes l s = record {
    page = s;
    answers = refl;
    stays = λ k e. (k, e);
    book = page_laws p bytes [] l s (λ t h. absurd (let z : ◌≡◌ {A = ℕ} 0 1 = cc in omega arith));
  }

  -- of two ledgers on one page both are started or none
  still_started : (q : Page) (a z : Ledger V C) → At v c q a → At v c q z → started z ≡ true → started a ≡ true
  still_started (unstarted n o m) a z w y t = absurd (let s = y.started in let e : ◌≡◌ {A = ℕ} 0 1 = cc in omega arith)
  still_started (standing k) a z w y t = stands_started v c k a w

  -- one call more
  pub laws_more : (p : Page) (bytes : List ℕ) (cs : List Call) (said : List Answer) (x : Call) (r : Answer) (a z : Ledger V C)
      → ((q : Page) → At v c q a → At v c (page_after bytes x q) z × (r ≡ answer_on bytes x q))
      → (x ≡ call.Flush → started a ≡ true → v.bottom z.state.view ≡ v.coins z.state.view)
      → PageLaws v c p bytes cs said a → PageLaws v c p bytes (cs ++ (x ∷ [])) (said ++ (r ∷ [])) z
  laws_more p bytes cs said x r a z law flush h =
      let q = pages_after bytes cs p in
      let one = law q h.page in
      let same = pages_more bytes cs x p in
      let s : At v c (pages_after bytes (cs ++ (x ∷ [])) p) z = subst (λ y. At v c y z) (sym same) one.0 in
      record {
        page = s;
        answers = ap (λ l. l ++ (r ∷ [])) h.answers ∙ ap (λ y. answers_on bytes cs p ++ (y ∷ [])) one.1 ∙ sym (answers_more bytes cs x p);
        stays = λ k e. stays_all bytes (cs ++ (x ∷ [])) p k e;
        book = page_laws (pages_after bytes (cs ++ (x ∷ [])) p) bytes (cs ++ (x ∷ [])) z s (λ t e.
            let f = flush_is x (sym (ends_more cs x) ∙ e) in
            flush f (still_started q a z h.page (subst (λ y. At v c y z) (ap (λ y. page_after bytes y q) f) one.0) t));
      }

  -- one call more of a list
  pub laws_next : (p : Page) (bytes : List ℕ) (cs : List Call) (said : List Answer) (i : ℕ) (d : Call) (r : Answer) (z : Ledger V C)
      → i < length cs → i < length said
      → PageLaws v c p bytes (take i cs ++ (get_or cs i d ∷ [])) (take i said ++ (r ∷ [])) z
      → PageLaws v c p bytes (take (i + 1) cs) (take (i + 1) (set said i r)) z
  laws_next p bytes cs said i d r z h g w =
      subst (λ l. PageLaws v c p bytes l (take (i + 1) (set said i r)) z) (sym (take_more cs i d h))
      (subst (λ l. PageLaws v c p bytes (take i cs ++ (get_or cs i d ∷ [])) l z) (sym (take_more_set said i r g)) w)
