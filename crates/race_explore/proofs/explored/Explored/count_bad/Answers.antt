use Rattle.std.proofs.Common.{◌≡◌, List, Some, length, slice_get, refl, ap, sym, ◌∙◌, inl, inr, subst}
use Rattle.std.proofs.lemmas.Option.{same_Some, slice_get_read, slice_get_within}
use Rattle.race_explore.specs.declared.stuck.BadEnd.{BadEnd}
use Rattle.race_explore.specs.{Ends.IsOfEnd, Looked.is_main_end}
use Rattle.race_explore.proofs.BadEndLemmas.{counts_none, counts_end}
use Rattle.race_explore.proofs.explored.Explored.count_bad.Goals as goal

pub returns-then-is_main-clause-bad : goal.returns-then-is_main-clause-bad
returns-then-is_main-clause-bad g c =
    counts_none c.args.recording.now c.args.picks.now c.args.self.now.bad.items
    (ap is_main_end (sym c.end-end.ensures) ∙ sym c.is_main.ensures ∙ c.if-is_main.true)

pub returns-in-Some-clause-bad : goal.returns-in-Some-clause-bad
returns-in-Some-clause-bad g c =
    let r = c.args.recording.now in
    let bad = c.args.self.now.bad.items in
    let place = c.in-Some.place in
    let found = c.in-Some.ensures.found in
    let b : BadEnd g.row.A.Denot = c.index_mut.result.now in
    let there : slice_get bad place ≡ Some found.0 = ap (λ (xs : List (BadEnd g.row.A.Denot)). slice_get xs place) (sym c.as_slice.ensures.value) ∙ found.1 in
    let at : slice_get bad place ≡ Some b =
    slice_get_read bad (length bad) place b refl (slice_get_within bad place found.0 there) c.index_mut.ensures.value in
    let same : found.0 ≡ b = same_Some found.0 b (sym there ∙ at) in
    let of = subst (IsOfEnd {A = g.row.A.Denot} c.end-end.result c.as_slice-2.result.now) same found.2 in
    counts_end r c.args.picks.now bad _ (ap is_main_end (sym c.end-end.ensures) ∙ sym c.is_main.ensures ∙ c.if-is_main.false)
    (inl (place, b, at, (of.0 ∙ c.end-end.ensures, of.1 ∙ c.as_slice-2.ensures.value ∙ c.in_ok-standing.ensures), refl))

pub returns-clause-bad : goal.returns-clause-bad
returns-clause-bad g c =
    let bad = c.args.self.now.bad.items in
    let b : BadEnd g.row.A.Denot = record { end = c.end-end.result; standing = c.in_ok-standing.standing; runs = 1; picks = c.in_ok-picks.picks } in
    counts_end c.args.recording.now c.args.picks.now bad c.push.new.self.items
    (ap is_main_end (sym c.end-end.ensures) ∙ sym c.is_main.ensures ∙ c.if-is_main.false)
    (inr (
      λ k e at of. c.in_default.ensures.none refl k e (ap (λ (xs : List (BadEnd g.row.A.Denot)). slice_get xs k) c.as_slice.ensures.value ∙ at)
          (of.0 ∙ sym c.end-end.ensures, of.1 ∙ sym (c.as_slice-2.ensures.value ∙ c.in_ok-standing.ensures)),
      b,
      record { end = c.end-end.ensures; standing = c.in_ok-standing.ensures; picks = c.in_ok-picks.ensures.items; runs = refl },
      c.in_ok-push.ensures.items,
    ))
