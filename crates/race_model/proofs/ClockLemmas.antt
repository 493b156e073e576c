-- Counting begins: what clocks with the same begins, more of them, or the begins of two clocks count.
use Rattle.std.proofs.Common.{◌≡◌, ◌⊎◌, ◌↔◌, ℕ, zero, suc, ◌+◌, ◌<◌, ◌≤◌, max, Bool, true, false, cond, List, [], ◌∷◌}
use Rattle.std.proofs.Common.{◌++◌, take, length, refl, sym, ap, ◌∙◌, subst, inl, inr, arith, IsTrue, take_at}
use Rattle.std.proofs.{Math.Nat.{le-max_left, le-max_right}, lemmas.{Bool.cases_lt, List.take-append-le}}
use Rattle.std.proofs.lemmas.List.Sums.{sum_by_push, sum_by-cons, sum_by-take-le, count_by_more_yes}
use Rattle.std.proofs.lemmas.Option.{slice_get_within, get_or_from_slice_get}
use Rattle.race_records.specs.declared.event.Event.{Event}
use Rattle.race_model.specs.{Events.{takes_part, TakesPart}, Clocks.{participations, CountsBegins}}
use Rattle.race_model.proofs.Indexes.{push_at}

-- 1 for true and 0 for false
abbrev pub one_if : Bool → ℕ
one_if b = cond b 1 0

-- a number below the greater of two is below one of them
pub below_max : (n a b : ℕ) → n < max a b → (n < a) ⊎ (n < b)
below_max n a b less = elim (cases_lt n a) [
  | inl under ↦ inl under
  | inr over ↦ elim (cases_lt n b) [ inl under ↦ inr under | inr above ↦ absurd (omega (arith, less)) ]
]

-- both are at most the bound, so is the greater
pub max_within : (a b n : ℕ) → a ≤ n → b ≤ n → max a b ≤ n
max_within a b n la lb = elim (cases_lt n (max a b)) [
  | inl under ↦ elim (below_max n a b under) [ inl less ↦ absurd (omega arith) | inr less ↦ absurd (omega arith) ]
  | inr over ↦ over
]

-- one event more is one participation more of those who take part
pub participations_push : (h : ℕ) (past : List Event) (e : Event) → participations h (past ++ e ∷ []) ≡ participations h past + one_if (takes_part h e)
participations_push h past e = sum_by_push (λ e. cond (takes_part h e) 1 0) past e

pub participations_grow : (h : ℕ) (past : List Event) (e : Event) → participations h past ≤ participations h (past ++ e ∷ [])
participations_grow h past e = let all : participations h (past ++ e ∷ []) ≡ participations h past + one_if (takes_part h e) =
    participations_push h past e in omega (arith, all)

-- a participation has fewer before it than the list has
pub participations_below : (h : ℕ) (events : List Event) (i : ℕ) → TakesPart events i h → participations h (take i events) < participations h events
participations_below h events i (e, at, is) =
    let passed : participations h (take (i + 1) events) ≡ participations h (take i events) + 1 =
    count_by_more_yes (takes_part h) events i e (slice_get_within events i e at) (ap (takes_part h) (get_or_from_slice_get events i e e at) ∙ is) in
    let up : participations h (take (i + 1) events) ≤ participations h events = sum_by-take-le (λ e. cond (takes_part h e) 1 0) events (i + 1) in
    omega (arith, passed, up)

-- the participation with n before it
pub nth_participation : (h n : ℕ) (events : List Event) → n < participations h events → (i : ℕ) × TakesPart events i h × (participations h (take i events) ≡ n)
nth_participation h n [] less = absurd (omega arith)
nth_participation h n (e ∷ events) less = go (takes_part h e) refl (λ m. nth_participation h m events)
  where
    total : participations h (e ∷ events) ≡ one_if (takes_part h e) + participations h events
    total = sum_by-cons (λ e. cond (takes_part h e) 1 0) e events

    behind : (m : ℕ) → one_if (takes_part h e) + m ≡ n → ((i : ℕ) × TakesPart events i h × (participations h (take i events) ≡ m))
        → (i : ℕ) × TakesPart (e ∷ events) i h × (participations h (take i (e ∷ events)) ≡ n)
    behind m sum (i, (s, at, is), n) =
        (suc i, (s, at, is), sum_by-cons (λ e. cond (takes_part h e) 1 0) e (take i events) ∙ ap (λ n. one_if (takes_part h e) + n) n ∙ sum)

    go : (b : Bool) → takes_part h e ≡ b → ((m : ℕ) → m < participations h events → (i : ℕ) × TakesPart events i h × (participations h (take i events) ≡ m))
        → (i : ℕ) × TakesPart (e ∷ events) i h × (participations h (take i (e ∷ events)) ≡ n)
    go false is rest = let one : one_if (takes_part h e) ≡ 0 = ap one_if is in behind n (omega (arith, one)) (rest n (omega (arith, one, total, less)))
    go true is rest =
        let one : one_if (takes_part h e) ≡ 1 = ap one_if is in
        elim (cases_lt 0 n) [
          | inr none ↦ (0, (e, refl, is), omega (arith, none))
          | inl some ↦ from_pred n some (λ m sum under. behind m (omega (arith, one, sum)) (rest m (omega (arith, one, total, less, sum))))
        ]
      where
        from_pred : (n : ℕ) → 0 < n → ((m : ℕ) → m + 1 ≡ n → m < n → (i : ℕ) × TakesPart (e ∷ events) i h × (participations h (take i (e ∷ events)) ≡ n))
            → (i : ℕ) × TakesPart (e ∷ events) i h × (participations h (take i (e ∷ events)) ≡ n)
        from_pred zero less to = absurd (omega arith)
        from_pred (suc m) less to = to m (omega arith) (omega arith)

-- a clock that counts S counts what has the same begins in it
pub counts_as : (events : List Event) (c : ℕ → ℕ) (S T : ℕ → ℕ → Type 0)
    → ((i h : ℕ) → TakesPart events i h → S i h ↔ T i h) → CountsBegins events c S → CountsBegins events c T
counts_as events c S T same k = record {
  bound = k.bound;
  counted = λ i h part in_t. k.counted i h part ((same i h part).1 in_t);
  only = λ i h part less. (same i h part).0 (k.only i h part less);
}

-- equal counts count the same
pub counts_like : (events : List Event) (c d : ℕ → ℕ) (S : ℕ → ℕ → Type 0) → ((h : ℕ) → d h ≡ c h) → CountsBegins events c S → CountsBegins events d S
counts_like events c d S same k = record {
  bound = λ h. let is : d h ≡ c h = same h in let le : c h ≤ participations h events = k.bound h in omega (arith, is, le);
  counted = λ i h part in_s. let is : d h ≡ c h = same h in
      let less : participations h (take i events) < c h = k.counted i h part in_s in omega (arith, is, less);
  only = λ i h part less. let is : d h ≡ c h = same h in k.only i h part (omega (arith, is, less));
}

-- no count at all counts nothing
pub counts_none : (events : List Event) (c : ℕ → ℕ) (S : ℕ → ℕ → Type 0) → ((h : ℕ) → c h ≡ 0) → ((i h : ℕ) → S i h → ⊥) → CountsBegins events c S
counts_none events c S none empty = record {
  bound = λ h. let is : c h ≡ 0 = none h in omega (arith, is);
  counted = λ i h part in_s. absurd (empty i h in_s);
  only = λ i h part less. let is : c h ≡ 0 = none h in absurd (omega (arith, is, less));
}

-- the greater of two counts counts what is in one set or in the other
pub counts_join : (events : List Event) (a b : ℕ → ℕ) (S T : ℕ → ℕ → Type 0) → CountsBegins events a S → CountsBegins events b T
    → CountsBegins events (λ h. max (a h) (b h)) (λ i h. S i h ⊎ T i h)
counts_join events a b S T k l = record {
  bound = λ h. max_within (a h) (b h) (participations h events) (k.bound h) (l.bound h);
  counted = λ i h part either. elim either [
    | inl in_s ↦ let less : participations h (take i events) < a h = k.counted i h part in_s in
        let le : a h ≤ max (a h) (b h) = le-max_left (a h) (b h) in omega
        (arith, less, le)
    | inr in_t ↦ let less : participations h (take i events) < b h = l.counted i h part in_t in
        let le : b h ≤ max (a h) (b h) = le-max_right (a h) (b h) in omega
        (arith, less, le)
  ];
  only = λ i h part less. elim (below_max (participations h (take i events)) (a h) (b h) less) [
    | inl under ↦ inl (k.only i h part under)
    | inr under ↦ inr (l.only i h part under)
  ];
}

-- a count of a set within another is at most the other's
pub counts_up : (events : List Event) (a b : ℕ → ℕ) (S T : ℕ → ℕ → Type 0) → CountsBegins events a S
    → CountsBegins events b T → ((i h : ℕ) → S i h → T i h) → (h : ℕ) → a h ≤ b h
counts_up events a b S T k l within h = elim (cases_lt (b h) (a h)) [
  | inr le ↦ le
  | inl less ↦
      let bound : a h ≤ participations h events = k.bound h in
      go (nth_participation h (b h) events (omega (arith, bound)))
]
  where
    go : ((i : ℕ) × TakesPart events i h × (participations h (take i events) ≡ b h)) → a h ≤ b h
    go (i, part, n) = elim (cases_lt (b h) (a h)) [
      | inr le ↦ le
      | inl less ↦
          let counted : participations h (take i events) < b h = l.counted i h part (within i h (k.only i h part (omega (arith, n)))) in
          absurd (omega (arith, n, counted))
    ]

-- joining a clock of what is seen already changes no count: so such a join may be left out
pub counts_skip : (events : List Event) (a b : ℕ → ℕ) (S T : ℕ → ℕ → Type 0) → CountsBegins events a S → CountsBegins events b T → ((i h : ℕ) → S i h → T i h)
    → CountsBegins events b (λ i h. T i h ⊎ S i h)
counts_skip events a b S T k l within =
    counts_as events b T (λ i h. T i h ⊎ S i h) (λ i h part. (inl, λ either. elim either [ inl in_t ↦ in_t | inr in_s ↦ within i h in_s ])) l

-- the list with e behind it
module _ (past : List Event) (e : Event) where
  -- the events before an event of the list, and before e
  pub front_old : (i : ℕ) → i ≤ length past → take i (past ++ e ∷ []) ≡ take i past
  front_old i le = take-append-le i past (e ∷ []) le

  pub front_new : (i : ℕ) → i ≡ length past → take i (past ++ e ∷ []) ≡ past
  front_new i is = take_at past (e ∷ []) i (sym is)

  -- a participation in the longer list is one in the list, or in e
  pub part_push : (i h : ℕ) → TakesPart (past ++ e ∷ []) i h → TakesPart past i h ⊎ ((i ≡ length past) × IsTrue (takes_part h e))
  part_push i h (s, at, is) = elim (push_at past e i s at) [
    | inl old ↦ inl (s, old, is)
    | inr new ↦ inr (new.0, subst (λ (s : Event). IsTrue (takes_part h s)) (sym new.1) is)
  ]

  part_within : (i h : ℕ) → TakesPart past i h → i < length past
  part_within i h (s, at, is) = slice_get_within past i s at

  -- a clock stays where nothing of e comes into its set
  pub counts_grow : (c : ℕ → ℕ) (S T : ℕ → ℕ → Type 0) → ((i h : ℕ) → TakesPart past i h → S i h ↔ T i h)
      → ((h : ℕ) → T (length past) h → ⊥) → CountsBegins past c S
      → CountsBegins (past ++ e ∷ []) c T
  counts_grow c S T same none k = record {
    bound =
        λ h. let le : c h ≤ participations h past = k.bound h in
        let up : participations h past ≤ participations h (past ++ e ∷ []) = participations_grow h past e in omega
        (arith, le, up);
    counted = λ i h part in_t. elim (part_push i h part) [
      | inl old ↦ subst (λ es. participations h es < c h) (sym (front_old i (let less : i < length past = part_within i h old in omega arith)))
          (k.counted i h old ((same i h old).1 in_t))
      | inr new ↦ absurd (none h (subst (λ i. T i h) new.0 in_t))
    ];
    only = λ i h part less. elim (part_push i h part) [
      | inl old ↦ (same i h old).0 (k.only i h old
          (subst (λ es. participations h es < c h) (front_old i (let under : i < length past = part_within i h old in omega arith)) less))
      | inr new ↦
          let all : participations h past < c h = subst (λ es. participations h es < c h) (front_new i new.0) less in
          let le : c h ≤ participations h past = k.bound h in
          absurd (omega (arith, all, le))
    ];
  }
