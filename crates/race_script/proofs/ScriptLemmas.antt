-- The step that is asked after an answer.
use Rattle.std.proofs.Common.{◌≡◌, ℕ, ◌+◌, ◌<◌, ◌&&◌, true, false, if◌then◌else◌, List, length, drop, get_or, slice_get}
use Rattle.std.proofs.{Common.{Some, sym, ap, ◌∙◌, arith}, lemmas.{List.length-map, Option.slice_get-get_or}}
use Rattle.race_requests.specs.declared.request.{Answer.Answer, Request.Request}
use Rattle.race_script.specs.{Bodies.{is_body, is_behind_do, is_exit, steps_to_end}, Program.asks_of, Run.ScriptState}
use Rattle.race_script.{specs.Run.{is_done, next_step, position_after}, proofs.BodyLemmas.behind_do_within}

-- the step behind the end of the function that had run
module _ (body : List Request) (n behind : ℕ) (answer : Answer) (in_once : is_behind_do (asks_of body) n ≡ true)
    (is : behind ≡ n + steps_to_end 0 (drop n (asks_of body))) where
  pub done_step : is_done answer ≡ true → behind ≡ next_step (record { whole = body; position = n }) answer
  done_step done = is ∙ sym (λ i. if in_once i && done i then n + steps_to_end 0 (drop n (asks_of body)) else n)

  pub done_step_within : is_body (asks_of body) ≡ true → behind < length body
  done_step_within ends =
      let less = behind_do_within (asks_of body) n ends in_once in
      let len = length-map body (λ (r : Request). r.ask) in
      omega (arith, less, len, is)

-- the step that is asked, and the position behind it
module _ (s : ScriptState) (answer : Answer) (step : ℕ) (asked : Request) (is : step ≡ next_step s answer) (less : step < length s.whole)
    (read : asked ≡ get_or s.whole step asked) where
  pub step_asked : slice_get s.whole (next_step s answer) ≡ Some asked
  step_asked = ap (slice_get s.whole) (sym is) ∙ slice_get-get_or s.whole step asked less ∙ ap Some (sym read)

  pub position_more : is_exit asked.ask ≡ false → step + 1 ≡ position_after (next_step s answer) asked.ask
  position_more other = (λ i. is i + 1) ∙ sym (ap (λ b. if b then next_step s answer else next_step s answer + 1) other)

  pub position_stays : is_exit asked.ask ≡ true → step ≡ position_after (next_step s answer) asked.ask
  position_stays exit = is ∙ sym (ap (λ b. if b then next_step s answer else next_step s answer + 1) exit)
