-- What the table of channels says of a list for which the replay stands: the words of the rules.
use Rattle.std.proofs.Common.{◌≡◌, ℕ, zero, suc, ◌-◌, ◌<◌, ◌≤◌, ◌==◌, nat_lt, List, [], ◌∷◌, length, drop, filter_map}
use Rattle.std.proofs.{Common.{slice_get, refl, sym, ap, ◌∙◌, arith, length-drop}, lemmas.Bool.Decides.nat_tests}
use Rattle.race_records.specs.{declared.{kind.Kind.Kind, event.Event.Event}, Declarations.Declaration}
use Rattle.race_model.specs.{Events.{sends, receives, count}, State.{buffered, front, sent}}
use Rattle.race_model.proofs.StateSteps.{sent_count}
use Rattle.race_legal.specs.{ReplayState.{ReplayState, counts_in, queue_in}, StandsFor.StandsFor}

-- as many are equal as none are left, where the one is no more than the other
equal_if_none : (m n q : ℕ) → n ≤ m → m - n ≡ q → (m == n) ≡ (q == 0)
equal_if_none m n q le left = grind (arith, nat_tests)

more_if_some : (m n q : ℕ) → m - n ≡ q → nat_lt n m ≡ nat_lt 0 q
more_if_some m n q left = grind (arith, nat_tests)

-- what stands at an index is the first behind those before it
slice_get-drop : {X : Type 0} (xs : List X) (n : ℕ) → slice_get xs n ≡ slice_get (drop n xs) 0
slice_get-drop xs zero = refl
slice_get-drop [] (suc n) = refl
slice_get-drop (x ∷ xs) (suc n) = slice_get-drop xs n

module _ (declarations : List Declaration) (k : ReplayState) (past : List Event)
    (S : StandsFor declarations k past) (c : ℕ) (less : c < counts_in k Kind.Chan) where
  -- as many values wait as are in the queue
  pub buffered_is : buffered c past ≡ length (queue_in k.channels c)
  buffered_is =
      ap (λ n. n - count (receives c) past) (sym (sent_count c past))
      ∙ sym (length-drop (count (receives c) past) (filter_map (λ e. sent c e.op) past))
      ∙ ap length (S.queue c less)

  -- the next Recv gets the first of them
  pub front_is : front c past ≡ slice_get (queue_in k.channels c) 0
  front_is = slice_get-drop (filter_map (λ e. sent c e.op) past) (count (receives c) past) ∙ ap (λ vs. slice_get vs 0) (S.queue c less)

  -- no value waits where as many were received as sent
  pub empty_is : (count (sends c) past == count (receives c) past) ≡ (length (queue_in k.channels c) == 0)
  empty_is = equal_if_none _ _ _ (S.received c less) buffered_is

  -- one waits where more were sent than received
  pub left_is : nat_lt (count (receives c) past) (count (sends c) past) ≡ nat_lt 0 (length (queue_in k.channels c))
  left_is = more_if_some _ _ _ buffered_is
