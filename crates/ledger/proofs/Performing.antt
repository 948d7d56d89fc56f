-- Each call on any page. Assumes nothing.
use Rattle.std.proofs.Common.{◌≡◌, ℕ, true, false, List, length, is_ok, Ok, Err, Result, sym, refl, ap, ◌∙◌, subst}
use Rattle.coinsview.specs.Meaning.{Coins}
use Rattle.coinsview.specs.declared.view.CoinsView.{Ghosts as ViewGhosts}
use Rattle.views.specs.declared.condition.SpendCondition.{Ghosts as ConditionGhosts}
use Rattle.undo.specs.Entries.{entries}
use Rattle.ledger.specs.declared.terms.Parameters.{Parameters}
use Rattle.ledger.specs.declared.Ledger.{Ledger}
use Rattle.ledger.specs.declared.fault.LedgerFault.{LedgerFault}
use Rattle.ledger.specs.Book.{Terms, Book, fresh}
use Rattle.ledger.proofs.Books.{stands_started}
use Rattle.ledger.specs.Starting.{in_range, start_answer, start_terms}
use Rattle.ledger.specs.Standing.{started, Stands, Early, Follows, Unchanged}
use Rattle.ledger.specs.Pages.{Opens, Page, unstarted, standing, Waits, At, book_by, from_book, start_on, begun, begun_by, page_after, answer_on}
use Rattle.ledger.specs.Answers.{Granted, answer_to, changes}
use Rattle.ledger.specs.PageLaws.{Performed}
use Rattle.ledger.specs.declared.runs.Call.{Call}

pub unchanged : {V C : Type 0} (v : ViewGhosts V) (a z : Ledger V C) → z ≡ a → Unchanged v a z
unchanged v a z e = record {
  room = ap (λ l. v.most l.state.view) e;
  condition = ap (λ l. l.condition) e;
  coins = ap (λ l. v.coins l.state.view) e;
  active = ap (λ l. l.active) e;
  undo = ap (λ l. entries l.state.undo) e;
}

module _ {V C : Type 0} (v : ViewGhosts V) (c : ConditionGhosts C) where
  -- a call that follows the book once it is started
  pub on_page : {X : Type 0} (a z : Ledger V C) (r : Result X LedgerFault) (f : Book → Book) (g : Book → Result X LedgerFault) → Early a z r → Follows v c a z r f g → (p : Page) → At v c p a → At v c (book_by f p) z × (r ≡ from_book g p)
  on_page a z r f g early law (unstarted n o m) w = let e = early w.started in (subst (Waits v c n o m) (sym e.1) w, e.0)
  on_page a z r f g early law (standing k) s = law k s

  -- a call that leaves the page
  pub on_same_page : {X : Type 0} (a z : Ledger V C) (r : Result X LedgerFault) (g : Book → Result X LedgerFault) → Early a z r → Follows v c a z r (λ k. k) g → (p : Page) → At v c p a → At v c p z × (r ≡ from_book g p)
  on_same_page a z r g early law (unstarted n o m) w = let e = early w.started in (subst (Waits v c n o m) (sym e.1) w, e.0)
  on_same_page a z r g early law (standing k) s = law k s

  -- a refused call leaves the ledger, if it does so once it is started
  pub kept_on_page : {X : Type 0} (a z : Ledger V C) (r : Result X LedgerFault) → Early a z r → ((k : Book) → Stands v c k a → is_ok r ≡ false → Unchanged v a z) → (p : Page) → At v c p a → is_ok r ≡ false → Unchanged v a z
  kept_on_page a z r early same (unstarted n o m) w e = unchanged v a z (early w.started).1
  kept_on_page a z r early same (standing k) s e = same k s e

  -- ---- the start

  begins : (n : ℕ) (o : Opens) (m : Coins) (t : Terms) (a z : Ledger V C) (r : Result Unit LedgerFault) → Waits v c n o m a → (is_ok r ≡ false → z ≡ a) → (is_ok r ≡ true → Stands v c (fresh t) z) → At v c (begun_by r (unstarted n o m) t) z
  begins n o m t a z (Ok u) w same start = start refl
  begins n o m t a z (Err f) w same start = subst (Waits v c n o m) (sym (same refl)) w

  pub start_on_page : (x : Parameters) (id : List ℕ) (a z : Ledger V C) (r : Result Unit LedgerFault)
      → r ≡ start_answer (started a) (in_range x) (length (v.coins a.state.view))
      → (is_ok r ≡ false → z ≡ a)
      → (is_ok r ≡ true → Stands v c (fresh (start_terms (v.most a.state.view) (c.opens a.condition) x id)) z)
      → (p : Page) → At v c p a → At v c (begun p x id) z × (r ≡ start_on p x)
  start_on_page x id a z r e same start (unstarted n o m) w =
      let is : r ≡ start_answer false (in_range x) (length m) = e ∙ ap (λ b. start_answer b (in_range x) (length (v.coins a.state.view))) w.started ∙ ap (λ q. start_answer false (in_range x) (length q)) w.coins in
      let terms : start_terms (v.most a.state.view) (c.opens a.condition) x id ≡ start_terms n o x id = ap (λ k. start_terms k (c.opens a.condition) x id) w.room ∙ ap (λ k. start_terms n k x id) w.opens in
      (subst (λ q. At v c (begun_by q (unstarted n o m) (start_terms n o x id)) z) is (begins n o m (start_terms n o x id) a z r w same (λ y. subst (λ t. Stands v c (fresh t) z) terms (start y))), is)
  start_on_page x id a z r e same start (standing k) s =
      let is : r ≡ start_on (standing k) x = e ∙ ap (λ b. start_answer b (in_range x) (length (v.coins a.state.view))) (stands_started v c k a s) in
      (subst (Stands v c k) (sym (same (ap is_ok is))) s, is)

  -- ---- any call

  pub performs : (bytes : List ℕ) (x y : Call) (r : Result (Granted y) LedgerFault) (says : Page → Result (Granted y) LedgerFault) (a z : Ledger V C)
      → x ≡ y
      → ((p : Page) → answer_on bytes y p ≡ answer_to y (says p))
      → ((p : Page) → At v c p a → At v c (page_after bytes y p) z × (r ≡ says p))
      → ((p : Page) → At v c p a → changes (answer_to y r) ≡ false → Unchanged v a z)
      → Performed v c bytes x (answer_to y r) a z
  performs bytes x y r says a z is told law same =
      subst (λ u. Performed v c bytes u (answer_to y r) a z) (sym is) (record {
        law = λ p s. let q = law p s in (q.0, ap (answer_to y) q.1 ∙ sym (told p));
        kind = (r, refl);
        same = same;
      })
