-- The state words one event on.
use Rattle.std.proofs.Common.{◌≡◌, ℕ, ◌+◌, ◌==◌, ◌||◌, ◌&&◌, not, Bool, true, false, length, List, [], ◌∷◌, ◌++◌}
use Rattle.std.proofs.Common.{Option, Some, None, unwrap_or, filter_map, if◌then◌else◌, refl, sym, ap, ◌∙◌, arith}
use Rattle.std.{proofs.lemmas.List.Elements.filter_map-append, specs.{List.cons_option, Option.option_to_list}}
use Rattle.race_records.specs.declared.event.{Event.Event, Op.{Op, TheVariants.Send}}
use Rattle.race_model.specs.{Events.{starts, is_exit, is_fault, sends, closes, has, has_exited, count}, State.over}
use Rattle.race_model.specs.State.{started, runs, written, last_value, is_closed, sent}
use Rattle.race_model.proofs.{LastOf.{last_of_push_some, last_of_push_none}, CountSteps.{as_number, count_cons}}
use Rattle.race_model.proofs.CountSteps.{has_push, has_exited_push}

-- the run is over with main's exit, and with a fault
pub over_push : (past : List Event) (e : Event) → over (past ++ e ∷ []) ≡ (over past || (((e.who == 0) && is_exit e.op) || is_fault e.op))
over_push past e = (λ i. has_exited_push 0 past e i || has_push is_fault past e i)
    ∙ both (has_exited 0 past) ((e.who == 0) && is_exit e.op) (has is_fault past) (is_fault e.op)
  where
    both : (a b c d : Bool) → ((a || b) || (c || d)) ≡ ((a || c) || (b || d))
    both true b c d = refl
    both false true true d = refl
    both false true false d = refl
    both false false c d = refl

-- a Go of g starts it
pub started_push : (g : ℕ) (past : List Event) (e : Event) → started g (past ++ e ∷ []) ≡ (started g past || starts g e.op)
started_push g past e = has_push (starts g) past e

-- g runs from its start to its exit
pub runs_push : (g : ℕ) (past : List Event) (e : Event)
    → runs g (past ++ e ∷ []) ≡ ((g == 0 || (started g past || starts g e.op)) && not (has_exited g past || ((e.who == g) && is_exit e.op)))
runs_push g past e =
    ap (λ s. (g == 0 || s) && not (has_exited g (past ++ e ∷ []))) (started_push g past e)
    ∙ ap (λ s. (g == 0 || (started g past || starts g e.op)) && not s) (has_exited_push g past e)

-- what the event writes, or else the value before
pub last_value_push : (x : ℕ) (past : List Event) (e : Event) → last_value x (past ++ e ∷ []) ≡ unwrap_or (written x e.op) (last_value x past)
last_value_push x past e = go (written x e.op) refl
  where
    go : (o : Option ℕ) → written x e.op ≡ o → last_value x (past ++ e ∷ []) ≡ unwrap_or o (last_value x past)
    go None is = ap (λ o. unwrap_or o 0) (last_of_push_none (λ e. written x e.op) past e is)
    go (Some v) is = ap (λ o. unwrap_or o 0) (last_of_push_some (λ e. written x e.op) past e v is)

-- a Close of c closes it
pub is_closed_push : (c : ℕ) (past : List Event) (e : Event) → is_closed c (past ++ e ∷ []) ≡ (is_closed c past || closes c e.op)
is_closed_push c past e = has_push (closes c) past e

-- what a Send on c sends comes behind what was sent before
pub sent_push : (c : ℕ) (past : List Event) (e : Event)
    → filter_map (λ e. sent c e.op) (past ++ e ∷ []) ≡ filter_map (λ e. sent c e.op) past ++ option_to_list (sent c e.op)
sent_push c past e = filter_map-append (λ e. sent c e.op) past (e ∷ []) ∙ ap (λ vs. filter_map (λ e. sent c e.op) past ++ vs) (alone (sent c e.op))
  where
    alone : (o : Option ℕ) → cons_option o [] ≡ option_to_list o
    alone None = refl
    alone (Some v) = refl

-- each Send sends a value
pub sent_count : (c : ℕ) (past : List Event) → length (filter_map (λ e. sent c e.op) past) ≡ count (sends c) past
sent_count c [] = refl
sent_count c (e ∷ past) = more e.op ∙ ap (λ n. as_number (sends c e.op) + n) (sent_count c past) ∙ sym (count_cons (sends c) e past)
  where
    rest : List ℕ
    rest = filter_map (λ e. sent c e.op) past

    one : (v : ℕ) (b : Bool) → length (cons_option (if b then Some v else None) rest) ≡ as_number b + length rest
    one v true = omega arith
    one v false = omega arith

    more : (o : Op) → length (cons_option (sent c o) rest) ≡ as_number (sends c o) + length rest
    more (Send d v) = one v (d == c)
    more _ = omega arith
