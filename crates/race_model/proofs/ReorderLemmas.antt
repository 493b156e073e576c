-- Without a data race two reorderings let every read find the same write.
use Rattle.std.proofs.Common.{◌≡◌, ◌≢◌, ℕ, ◌<◌, Bool, true, false, List, Option, Some, None, take, slice_get, refl, sym}
use Rattle.std.proofs.{Common.{ap, ◌∙◌, subst, inl, inr, arith, IsTrue}, lemmas.Bool.{cases_order, cases_eq, or_left}}
use Rattle.std.proofs.lemmas.{Bool.{or_right, cond-true}, Option.cond_some}
use Rattle.race_records.specs.declared.event.{Event.Event, Op.{Op, TheVariants.{Read, Write}}}
use Rattle.race_model.specs.{Events.{At, reads, writes, accesses, is_access, last_of}, Race.{IsAccessOf, IsWriteOf}}
use Rattle.race_model.specs.{Race.{Conflict, IsDataRaceFree}, Reorder.{op_passes, StandsBefore, IsReordering, write_at}}
use Rattle.race_model.{specs.Reorder.finds, proofs.Indexes.{at_same, before_only, slice_get-take, take_within}}
use Rattle.race_model.proofs.{Indexes.take_at_old, LastOf.{IsLast, last_of_is}}

-- the event behind a test that passes
pub passes_at : (test : Op → Bool) (events : List Event) (i : ℕ) → IsTrue (op_passes test events i) → (e : Event) × At events i e × IsTrue (test e.op)
passes_at test events i is = go (slice_get events i) refl is
  where
    go : (o : Option Event) → slice_get events i ≡ o → elim o [ Some e ↦ test e.op | None ↦ false ] ≡ true → (e : Event) × At events i e × IsTrue (test e.op)
    go None at is = cc
    go (Some e) at is = (e, at, is)

-- an event whose operation passes
pub passes_from : (test : Op → Bool) (events : List Event) (i : ℕ) (e : Event) → At events i e → IsTrue (test e.op) → IsTrue (op_passes test events i)
passes_from test events i e at is = rw (at, op_passes) is

-- what accesses one variable is an access
pub is_access_from : (x : ℕ) (o : Op) → IsTrue (accesses x o) → IsTrue (is_access o)
is_access_from x (Read y v) is = refl
is_access_from x (Write y v) is = refl
is_access_from x _ is = is

-- one operation doesn't both read and write
pub read_or_write : (x : ℕ) (o : Op) → IsTrue (reads x o) → IsTrue (writes x o) → ⊥
read_or_write x (Read y v) r w = cc
read_or_write x _ r w = cc

module _ (caps : ℕ → ℕ) (events : List Event) where
  -- an access of a variable is an access
  pub access_passes : (x a : ℕ) → IsAccessOf events x a → IsTrue (op_passes is_access events a)
  access_passes x a (e, at, is) = passes_from is_access events a e at (is_access_from x e.op is)

  -- in one reordering two accesses stand in one order
  pub not_both_ways : (order : List ℕ) → IsReordering caps events order → (a b : ℕ) → StandsBefore order a b → StandsBefore order b a → ⊥
  not_both_ways order r a b (i, j, less, ati, atj) (m, n, under, atm, atn) =
      let first : i ≡ n = r.once i n a ati atn in
      let second : j ≡ m = r.once j m b atj atm in
      absurd (omega arith)

  -- accesses that conflict stand in one order in every reordering
  pub conflict_kept : IsDataRaceFree caps events → (one two : List ℕ) → IsReordering caps events one → IsReordering caps events two
      → (x a b : ℕ) → Conflict events x a b → StandsBefore one a b → StandsBefore two a b
  conflict_kept free one two r s x a b c before = go (s.each a is_a) (s.each b is_b)
    where
      is_a : IsTrue (op_passes is_access events a)
      is_a = access_passes x a c.1

      is_b : IsTrue (op_passes is_access events b)
      is_b = access_passes x b c.2

      go : ((i : ℕ) × (slice_get two i ≡ Some a)) → ((j : ℕ) × (slice_get two j ≡ Some b)) → StandsBefore two a b
      go (i, ati) (j, atj) = elim (cases_order i j) [
        | inl same ↦ absurd (c.0 (at_same two i a b ati (ap (slice_get two) same ∙ atj)))
        | inr (inl less) ↦ (i, j, less, ati, atj)
        | inr (inr more) ↦ absurd (free x a b (record {
          conflict = c;
          not_before = λ h. not_both_ways two s a b (s.kept a b is_a is_b h) (j, i, more, atj, ati);
          not_after = λ h. not_both_ways one r a b before (r.kept b a is_b is_a h);
        }))
      ]

-- what it says that a read r of x finds this in the order
abbrev pub IsFound : List Event → List ℕ → ℕ → ℕ → Option ℕ → Type 0
IsFound events order x r None = (b : ℕ) → IsWriteOf events x b → StandsBefore order b r → ⊥
IsFound events order x r (Some a) = IsWriteOf events x a × StandsBefore order a r
    × ((b : ℕ) → IsWriteOf events x b → b ≢ a → StandsBefore order b r → StandsBefore order b a)

-- write_at answers the index of a write
pub write_at_some : (events : List Event) (x a b : ℕ) → write_at events x a ≡ Some b → IsWriteOf events x a × (a ≡ b)
write_at_some events x a b e =
    let parts : IsTrue (op_passes (writes x) events a) × (a ≡ b) = cond_some (op_passes (writes x) events a) a b e in
    (passes_at (writes x) events a parts.0, parts.1)

-- and does so at each
pub write_at_write : (events : List Event) (x a : ℕ) → IsWriteOf events x a → write_at events x a ≡ Some a
write_at_write events x a (e, at, is) = cond-true _ (Some a) None (passes_from (writes x) events a e at is)

-- finds says what IsFound says, where r stands in the order once
pub found_is : (events : List Event) (order : List ℕ) (x r k : ℕ) → slice_get order k ≡ Some r
    → ((i j a : ℕ) → slice_get order i ≡ Some a → slice_get order j ≡ Some a → i ≡ j)
    → IsFound events order x r (finds events order x r)
found_is events order x r k here once =
    subst (λ front. IsFound events order x r (last_of (write_at events x) front)) (sym (before_only order r k here (λ j at. once j k r at here)))
    (go (last_of (write_at events x) (take k order)) (last_of_is (write_at events x) (take k order)))
  where
    in_front : (i j b : ℕ) → i < j → slice_get order i ≡ Some b → slice_get order j ≡ Some r → slice_get (take k order) i ≡ Some b
    in_front i j b less ati atj = let same : j ≡ k = once j k r atj here in slice_get-take k order i (omega arith) ∙ ati

    go : (o : Option ℕ) → IsLast (write_at events x) (take k order) o → IsFound events order x r o
    go None none = λ b w (i, j, less, ati, atj).
        let some : write_at events x b ≡ Some b = write_at_write events x b w in
        let no_one : write_at events x b ≡ None = none i b (in_front i j b less ati atj) in
        cc
    go (Some a) (i, l) = (subst (IsWriteOf events x) found.1 found.0, (i, k, take_within k order i l.element l.at, ata, here), others)
      where
        found : IsWriteOf events x l.element × (l.element ≡ a)
        found = write_at_some events x l.element a l.given

        ata : slice_get order i ≡ Some a
        ata = take_at_old k order i l.element l.at ∙ ap Some found.1

        others : (b : ℕ) → IsWriteOf events x b → b ≢ a → StandsBefore order b r → StandsBefore order b a
        others b w differ (m, j, less, atm, atj) = elim (cases_order m i) [
          | inl same ↦ absurd (differ (at_same order i b a (ap (slice_get order) (sym same) ∙ atm) ata))
          | inr (inl under) ↦ (m, i, under, atm, ata)
          | inr (inr above) ↦
              let some : write_at events x b ≡ Some b = write_at_write events x b w in
              let no_one : write_at events x b ≡ None = l.behind m b above (in_front m j b less atm atj) in
              cc
        ]

-- without a data race a read finds the same write in two reorderings
pub same_finds : (caps : ℕ → ℕ) (events : List Event) → IsDataRaceFree caps events → (one two : List ℕ) → IsReordering caps events one
    → IsReordering caps events two
    → (x r : ℕ) → IsTrue (op_passes (reads x) events r) → finds events one x r ≡ finds events two x r
same_finds caps events free one two p q x r is = go (finds events one x r) (finds events two x r) (found one p) (found two q)
  where
    read : (e : Event) × At events r e × IsTrue (reads x e.op)
    read = passes_at (reads x) events r is

    access : IsAccessOf events x r
    access = (read.0, read.1, or_left (reads x read.0.op) (writes x read.0.op) read.2)

    place : (order : List ℕ) → IsReordering caps events order → (k : ℕ) × (slice_get order k ≡ Some r)
    place order s = s.each r (access_passes caps events x r access)

    found : (order : List ℕ) → IsReordering caps events order → IsFound events order x r (finds events order x r)
    found order s = found_is events order x r (place order s).0 (place order s).1 s.once

    of_write : (a : ℕ) → IsWriteOf events x a → IsAccessOf events x a
    of_write a (e, at, w) = (e, at, or_right (reads x e.op) (writes x e.op) w)

    not_r : (a : ℕ) → IsWriteOf events x a → a ≢ r
    not_r a (e, at, w) same =
        read_or_write x e.op (subst (λ (s : Event). IsTrue (reads x s.op)) (at_same events r read.0 e read.1 (ap (slice_get events) (sym same) ∙ at)) read.2) w

    with_r : (a : ℕ) → IsWriteOf events x a → Conflict events x a r
    with_r a w = (not_r a w, of_write a w, access, inl w)

    go : (o : Option ℕ) (t : Option ℕ) → IsFound events one x r o → IsFound events two x r t → o ≡ t
    go None None f g = refl
    go None (Some b) f (w, before, rest) = absurd (f b w (conflict_kept caps events free two one q p x b r (with_r b w) before))
    go (Some a) None (w, before, rest) g = absurd (g a w (conflict_kept caps events free one two p q x a r (with_r a w) before))
    go (Some a) (Some b) (v, a_first, a_last) (w, b_first, b_last) = elim (cases_eq a b) [
      | inl same ↦ ap Some same
      | inr differ ↦
          let ab : Conflict events x a b = (differ, of_write a v, of_write b w, inl v) in
          let b_then_a : StandsBefore one b a = a_last b w (λ e. differ (sym e)) (conflict_kept caps events free two one q p x b r (with_r b w) b_first) in
          let a_then_b : StandsBefore two a b = b_last a v differ (conflict_kept caps events free one two p q x a r (with_r a v) a_first) in
          absurd (not_both_ways caps events one p a b (conflict_kept caps events free two one q p x a b ab a_then_b) b_then_a)
    ]
