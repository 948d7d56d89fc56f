-- The lines of a run, one by one. Assumes nothing.
use Rattle.std.proofs.Common.{◌≡◌, ℕ, ◌+◌, ◌-◌, ◌<◌, ◌≤◌, cond, List, [], ◌∷◌, ◌++◌, length, Ok, Option, sym, refl, ap, ◌∙◌, subst, append_assoc, append-nil, arith, le-ltb, lt-ltb}
use Rattle.blockform.specs.File.{record_at}
use Rattle.coinsview.specs.declared.view.CoinsView.{Ghosts as ViewGhosts}
use Rattle.views.specs.declared.condition.SpendCondition.{Ghosts as ConditionGhosts}
use Rattle.ledger.specs.declared.Ledger.{Ledger}
use Rattle.ledger.specs.declared.runs.Call.{Call}
use Rattle.ledger.specs.declared.runs.Call.TheVariants as call
use Rattle.ledger.specs.declared.runs.Answer.{Answer}
use Rattle.ledger.specs.PageLaws.{PageLaws}
use Rattle.ledger.specs.Book.{connect_answer}
use Rattle.ledger.specs.Pages.{Page, At, from_book, page_after, pages_after}
use Rattle.ledger.specs.Runs.{part}
use Rattle.ledger.proofs.PageRunning.{laws_none}
use Rattle.printout.specs.declared.Line.{Line}
use Rattle.printout.specs.Texts.{line_text}
use Rattle.script.specs.declared.command.Command.{Command}
use Rattle.script.specs.Cuts.{lines_of}
use Rattle.script.specs.declared.command.Command.TheVariants.{Connect}
use Rattle.replay.specs.Answers.{connect_line}
use Rattle.replay.proofs.Parts.{record_part}
use Rattle.replay.specs.Turns.{parsed, texts}
use Rattle.replay.specs.PageTurns.{connect_call, calls_for, record_line, line_for, turn_place, turn_calls, turn_line, calls_of, printed, too_long, script_calls, printout, RunsOn, PageTurn}

pages_append : (file : List ℕ) (cs ds : List Call) (q : Page) → pages_after file (cs ++ ds) q ≡ pages_after file ds (pages_after file cs q)
pages_append file [] ds q = refl
pages_append file (c ∷ cs) ds q = pages_append file cs ds (page_after file c q)

module _ {V C : Type 0} (v : ViewGhosts V) (c : ConditionGhosts C) (file : List ℕ) where
  -- no call
  pub runs_none : (a : Ledger V C) → RunsOn v c file [] a a
  runs_none a q cs said h = ([], subst (λ x. PageLaws v c q file x (said ++ []) a) (sym (append-nil cs)) (subst (λ x. PageLaws v c q file cs x a) (sym (append-nil said)) h))

  -- one call
  runs_one : (a z : Ledger V C) (x : Call) (r : Answer) → ((q : Page) (cs : List Call) (said : List Answer) → PageLaws v c q file cs said a → PageLaws v c q file (cs ++ (x ∷ [])) (said ++ (r ∷ [])) z) → RunsOn v c file (x ∷ []) a z
  runs_one a z x r f q cs said h = (r ∷ [], f q cs said h)

  -- one call, whose answer r is printed by `prints`
  pub call_turn : {R : Type 0} (x : Call) (r : R) (said : Answer) (prints : R → Line) (says : Page → R) (l : Line) (a z : Ledger V C) → ((q : Page) → At v c q a → r ≡ says q) → l ≡ prints r
      → ((q : Page) (cs : List Call) (done : List Answer) → PageLaws v c q file cs done a → PageLaws v c q file (cs ++ (x ∷ [])) (done ++ (said ∷ [])) z) → PageTurn v c file (x ∷ []) (λ q. prints (says q)) l a z
  call_turn x r said prints says l a z told printed more = record { line = λ q s. printed ∙ ap prints (told q s); runs = runs_one a z x said more }

  pub runs_then : (a b z : Ledger V C) (cs ds : List Call) → RunsOn v c file cs a b → RunsOn v c file ds b z → RunsOn v c file (cs ++ ds) a z
  runs_then a b z cs ds f g q before said h =
      let one = f q before said h in
      let two = g q (before ++ cs) (said ++ one.0) one.1 in
      (one.0 ++ two.0, subst (λ x. PageLaws v c q file x (said ++ (one.0 ++ two.0)) z) (append_assoc before cs ds) (subst (λ x. PageLaws v c q file ((before ++ cs) ++ ds) x z) (append_assoc said one.0 two.0) two.1))

  -- a '+' that finds a record
  pub connect_turn : (bytes b : List ℕ) (p from to : ℕ) (x : Line) (a z : Ledger V C) → bytes ≡ file → record_at file p ≡ Ok b → to ≡ p + 4 + length b → from ≡ to - length b
      → PageTurn v c bytes (call.Connect from to ∷ []) (λ q. connect_line (from_book (λ k. connect_answer k (part from to bytes)) q)) x a z
      → PageTurn v c file (calls_for file p Connect) (line_for file p Connect) x a z
  connect_turn bytes b p from to x a z same found end begin t =
      let start : from ≡ p + 4 = omega (arith, end, begin) in
      let one = subst (λ s. PageTurn v c s (call.Connect from to ∷ []) (λ q. connect_line (from_book (λ k. connect_answer k (part from to s)) q)) x a z) same t in
      let two = subst (λ i. PageTurn v c file (call.Connect i to ∷ []) (λ q. connect_line (from_book (λ k. connect_answer k (part i to file)) q)) x a z) start one in
      let three = subst (λ i. PageTurn v c file (call.Connect (p + 4) i ∷ []) (λ q. connect_line (from_book (λ k. connect_answer k (part (p + 4) i file)) q)) x a z) end two in
      let four = subst (λ s. PageTurn v c file (call.Connect (p + 4) (p + 4 + length b) ∷ []) (λ q. connect_line (from_book (λ k. connect_answer k s) q)) x a z) (record_part file p b found) three in
      subst (λ r. PageTurn v c file (connect_call p r) (λ q. record_line q r) x a z) (sym found) four

  -- a command, by the calls and the line that are its own
  pub command_turn : (bytes : List ℕ) (p : ℕ) (k l : Command) (x : Line) (a z : Ledger V C) → bytes ≡ file → k ≡ l → PageTurn v c bytes (calls_for bytes p l) (line_for bytes p l) x a z → PageTurn v c file (calls_for file p k) (line_for file p k) x a z
  command_turn bytes p k l x a z same is t = subst (λ y. PageTurn v c file (calls_for file p y) (line_for file p y) x a z) (sym is) (subst (λ s. PageTurn v c s (calls_for s p l) (line_for s p l) x a z) same t)

  -- ---- what is done of a run and what is left of it make up the whole

  -- the ledger a was on the page q; the text out and the calls so far are those of the lines that are done
  pub record Done (n p : ℕ) (left : List (Option (List ℕ))) (out : List ℕ) (lines : List (Option (List ℕ))) (a z : Ledger V C) : Type 0 where
    pub calls : List Call
    pub runs : RunsOn v c file calls a z
    pub rest : calls ++ calls_of file p left ≡ calls_of file 0 lines
    pub text : (q : Page) → At v c q a → out ++ texts (printed file n p (pages_after file calls q) left) ≡ texts (printed file 0 0 q lines)

  pub none_done : (left : List (Option (List ℕ))) (a : Ledger V C) → Done 0 0 left [] left a a
  none_done left a = record { calls = []; runs = runs_none a; rest = refl; text = λ q s. refl }

  pub one_done : (n p : ℕ) (l : Option (List ℕ)) (left : List (Option (List ℕ))) (out : List ℕ) (lines : List (Option (List ℕ))) (x : Line) (a b z : Ledger V C)
      → PageTurn v c file (turn_calls file p (parsed l)) (turn_line file (n + 1) p (parsed l)) x b z
      → Done n p (l ∷ left) out lines a b → Done (n + 1) (turn_place file p (parsed l)) left (out ++ line_text x) lines a z
  one_done n p l left out lines x a b z t d =
      let ds = turn_calls file p (parsed l) in
      let cs = d.calls in
      record {
        calls = cs ++ ds;
        runs = runs_then a b z cs ds d.runs t.runs;
        rest = append_assoc cs ds (calls_of file (turn_place file p (parsed l)) left) ∙ d.rest;
        text = λ q s.
            let w = d.runs q [] [] (laws_none v c q file a s) in
            let here : x ≡ turn_line file (n + 1) p (parsed l) (pages_after file cs q) = t.line (pages_after file cs q) w.1.page in
            append_assoc out (line_text x) (texts (printed file (n + 1) (turn_place file p (parsed l)) (pages_after file (cs ++ ds) q) left)) ∙
            ap (λ y. out ++ (line_text y ++ texts (printed file (n + 1) (turn_place file p (parsed l)) (pages_after file (cs ++ ds) q) left))) here ∙
            ap (λ y. out ++ (line_text (turn_line file (n + 1) p (parsed l) (pages_after file cs q)) ++ texts (printed file (n + 1) (turn_place file p (parsed l)) y left))) (pages_append file cs ds q) ∙
            d.text q s;
      }

  pub all_done : (n p : ℕ) (out : List ℕ) (lines : List (Option (List ℕ))) (a z : Ledger V C) → Done n p [] out lines a z → RunsOn v c file (calls_of file 0 lines) a z × ((q : Page) → At v c q a → out ≡ texts (printed file 0 0 q lines))
  all_done n p out lines a z d = (subst (λ x. RunsOn v c file x a z) (sym (append-nil d.calls) ∙ d.rest) d.runs, λ q s. sym (append-nil out) ∙ d.text q s)

  -- the same, by what is known of a run: before its first line, after one more line, and at its end
  pub begin : (script rest out : List ℕ) (n p : ℕ) (a : Ledger V C) → rest ≡ script → n ≡ 0 → p ≡ 0 → out ≡ [] → Done n p (lines_of rest) out (lines_of script) a a
  begin script rest out n p a er en ep eo =
      subst (λ x. Done x p (lines_of rest) out (lines_of script) a a) (sym en)
      (subst (λ x. Done 0 x (lines_of rest) out (lines_of script) a a) (sym ep)
      (subst (λ x. Done 0 0 (lines_of x) out (lines_of script) a a) (sym er)
      (subst (λ x. Done 0 0 (lines_of script) x (lines_of script) a a) (sym eo) (none_done (lines_of script) a))))

  pub go_on : (same : List ℕ) (n m p r : ℕ) (l : Option (List ℕ)) (left rest lines : List (Option (List ℕ))) (out more : List ℕ) (x : Line) (a b z : Ledger V C)
      → same ≡ file → left ≡ l ∷ rest → m ≡ n + 1 → r ≡ turn_place same p (parsed l) → more ≡ out ++ line_text x
      → PageTurn v c same (turn_calls same p (parsed l)) (turn_line same (n + 1) p (parsed l)) x b z
      → Done n p left out lines a b → Done m r rest more lines a z
  go_on same n m p r l left rest lines out more x a b z es el em er eo t d =
      let turn = subst (λ f. PageTurn v c f (turn_calls f p (parsed l)) (turn_line f (n + 1) p (parsed l)) x b z) es t in
      let place : r ≡ turn_place file p (parsed l) = er ∙ ap (λ f. turn_place f p (parsed l)) es in
      let done = one_done n p l rest out lines x a b z turn (subst (λ y. Done n p y out lines a b) el d) in
      subst (λ y. Done y r rest more lines a z) (sym em)
      (subst (λ y. Done (n + 1) y rest more lines a z) (sym place)
      (subst (λ y. Done (n + 1) (turn_place file p (parsed l)) rest y lines a z) (sym eo) done))

  pub end : (script out : List ℕ) (n p : ℕ) (left : List (Option (List ℕ))) (a z : Ledger V C) → length file ≤ 65536 → left ≡ [] → Done n p left out (lines_of script) a z
      → RunsOn v c file (script_calls file script) a z × ((q : Page) → At v c q a → out ≡ printout file script q)
  end script out n p left a z few none d =
      let small = le-ltb 65536 (length file) few in
      let all = all_done n p out (lines_of script) a z (subst (λ y. Done n p y out (lines_of script) a z) none d) in
      (subst (λ t. RunsOn v c file (cond t [] (calls_of file 0 (lines_of script))) a z) (sym small) all.0, λ q s. all.1 q s ∙ ap (λ t. cond t (line_text too_long) (texts (printed file 0 0 q (lines_of script)))) (sym small))

  -- a file that is too long
  pub refused : (script out : List ℕ) (a : Ledger V C) → 65536 < length file → out ≡ line_text too_long → RunsOn v c file (script_calls file script) a a × ((q : Page) → At v c q a → out ≡ printout file script q)
  refused script out a long e =
      let big = lt-ltb 65536 (length file) long in
      (subst (λ t. RunsOn v c file (cond t [] (calls_of file 0 (lines_of script))) a a) (sym big) (runs_none a), λ q s. e ∙ ap (λ t. cond t (line_text too_long) (texts (printed file 0 0 q (lines_of script)))) (sym big))
