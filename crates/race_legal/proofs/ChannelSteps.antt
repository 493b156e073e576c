-- The table of channels, one event on.
use Rattle.std.proofs.Common.{◌≡◌, ℕ, ◌+◌, ◌-◌, ◌<◌, ◌≤◌, ◌==◌, ◌||◌, Bool, true, false, List, [], ◌∷◌, ◌++◌, length}
use Rattle.std.proofs.Common.{Some, None, drop, filter_map, if◌then◌else◌, refl, sym, ap, ◌∙◌, subst, arith, append-nil}
use Rattle.std.proofs.{Common.drop-drop, Math.Bool.{or-true, or-false}, lemmas.Bool.{eqb-true, eqb-false}}
use Rattle.std.{proofs.lemmas.List.drop-append-le, specs.Option.option_to_list}
use Rattle.race_records.specs.declared.event.{Event.Event, Op.{Op, TheVariants.{Send, Recv, Close}}}
use Rattle.race_model.specs.{Events.{sends, receives, closes, count}, State.sent, Legal.least_broken}
use Rattle.race_model.proofs.{CountSteps.{as_number, count_push}, StateSteps.{sent_push, sent_count}}
use Rattle.race_legal.specs.{ReplayState.{ChannelsState, ReplayState, closed_in, queue_in}, After.channels_after}
use Rattle.race_legal.{specs.RulesKept.op_rules_in, proofs.TableSteps.get_or-set}

-- a Close closes its channel, and nothing else does
pub closed_step : (t : ChannelsState) (o : Op) (c : ℕ) → c < length t.closed → (closed_in t c || closes c o) ≡ closed_in (channels_after t o) c
closed_step t (Close d) c less = rw (get_or-set t.closed d c true false less) (go (d == c))
  where
    go : (b : Bool) → (closed_in t c || b) ≡ (if b then true else closed_in t c)
    go true = or-true (closed_in t c)
    go false = or-false (closed_in t c)
closed_step t (Send d v) c less = or-false (closed_in t c)
closed_step t (Recv d v) c less = or-false (closed_in t c)
closed_step t _ c less = or-false (closed_in t c)

-- a Send puts its value behind those that wait, a Recv takes the first one out, and nothing else does either
pub queue_step : (t : ChannelsState) (o : Op) (c : ℕ) → c < length t.queues
    → drop (as_number (receives c o)) (queue_in t c ++ option_to_list (sent c o)) ≡ queue_in (channels_after t o) c
queue_step t (Send d v) c less = rw (get_or-set t.queues d c (queue_in t d ++ v ∷ []) [] less) (go (d == c) (eqb-true d c))
  where
    go : (b : Bool) → (b ≡ true → d ≡ c) → queue_in t c ++ option_to_list (if b then Some v else None) ≡ (if b then queue_in t d ++ v ∷ [] else queue_in t c)
    go true same = ap (λ n. queue_in t n ++ v ∷ []) (sym (same refl))
    go false differ = append-nil (queue_in t c)
queue_step t (Recv d v) c less = rw (get_or-set t.queues d c (drop 1 (queue_in t d)) [] less, append-nil (queue_in t c)) (go (d == c) (eqb-true d c))
  where
    go : (b : Bool) → (b ≡ true → d ≡ c) → drop (as_number b) (queue_in t c) ≡ (if b then drop 1 (queue_in t d) else queue_in t c)
    go true same = ap (λ n. drop 1 (queue_in t n)) (sym (same refl))
    go false differ = refl
queue_step t (Close d) c less = append-nil (queue_in t c)
queue_step t _ c less = append-nil (queue_in t c)

-- behind an event, what was sent without what was received
pub waiting_push : (c : ℕ) (past : List Event) (e : Event) → count (receives c) past ≤ count (sends c) past
    → drop (count (receives c) (past ++ e ∷ [])) (filter_map (λ e. sent c e.op) (past ++ e ∷ []))
    ≡ drop (as_number (receives c e.op)) (drop (count (receives c) past) (filter_map (λ e. sent c e.op) past) ++ option_to_list (sent c e.op))
waiting_push c past e le =
    (λ i. drop (count_push (receives c) past e i) (sent_push c past e i))
    ∙ sym (drop-drop (as_number (receives c e.op)) (count (receives c) past) (values ++ option_to_list (sent c e.op)))
    ∙ ap (drop (as_number (receives c e.op)))
    (drop-append-le (count (receives c) past) values (option_to_list (sent c e.op)) (subst (λ n. count (receives c) past ≤ n) (sym (sent_count c past)) le))
  where
    values : List ℕ
    values = filter_map (λ e. sent c e.op) past

-- none of the rules is broken
abbrev pub NoneBroken : List (ℕ × Bool) → Type 0
NoneBroken [] = Unit {0}
NoneBroken (r ∷ rs) = (r.1 ≡ false) × NoneBroken rs

pub none_broken : (rules : List (ℕ × Bool)) → least_broken rules ≡ None → NoneBroken rules
none_broken [] none = tt
none_broken ((n, true) ∷ rs) none = cc
none_broken ((n, false) ∷ rs) none = (refl, none_broken rs none)

-- a Recv that breaks no rule finds a value: no more is received than sent
pub received_step : (k : ReplayState) (who : ℕ) (o : Op) (c n m : ℕ) → NoneBroken (op_rules_in k who o) → n ≤ m → m - n ≡ length (queue_in k.channels c)
    → n + as_number (receives c o) ≤ m + as_number (sends c o)
received_step k who (Send d v) c n m kept le waiting = omega (arith, le)
received_step k who (Recv d v) c n m kept le waiting = go kept.1.0 (d == c) (eqb-true d c)
  where
    go : (length (queue_in k.channels d) == 0) ≡ false → (b : Bool) → (b ≡ true → d ≡ c) → n + as_number b ≤ m + 0
    go filled true same =
        let some : length (queue_in k.channels c) ≡ 0 → ⊥ =
        eqb-false (length (queue_in k.channels c)) 0 (subst (λ d. (length (queue_in k.channels d) == 0) ≡ false) (same refl) filled) in
        omega (arith, le, waiting, some)
    go filled false differ = omega (arith, le)
received_step k who _ c n m kept le waiting = omega (arith, le)
