use Rattle.std.proofs.Common.{◌≡◌, ◌∙◌, ◌||◌, Bool, true, false, Some, if◌then◌else◌, nat_le, length, Err, inl, inr, sym, ap, subst, arith, ℕ}
use Rattle.std.proofs.lemmas.{Bool.Decides.nat_tests, Result.MatchResult-weaker}
use Rattle.std.specs.Prelude.{reverse}
use Rattle.race_records.specs.declared.declarations.DeclFault.{DeclFault}
use Rattle.race_records.specs.{Declarations.{DeclsState, with_place, place_number, place_fault}, Refusal.{Refuses, AllowsUnless}}
use Rattle.race_text.specs.{declared.cause.TextCause.TextCause, Declaring.cause_of, Owed.owed}
use Rattle.race_script.specs.{declared.program.TheConstants.MAX_STEPS, Fault.{has_no_room, follow_cause}, Program.Instruction}
use Rattle.race_script.specs.{Reader.{UnendedState, added_cause, state_of}, Reading.asked_at}
use Rattle.race_script.proofs.TakingLemmas.{room_is, place_told, not_refused}
use Rattle.race_script.proofs.reader.Unended.add.Goals as goal

-- the cause, where there are few steps
by_room : (decls : DeclsState) (u : UnendedState) (i : Instruction) → nat_le MAX_STEPS (length u.requests) ≡ false → (b : Bool)
    → has_no_room decls.places i.place ≡ b → added_cause decls u i ≡ (if b then Some TextCause.TooMany else follow_cause (Some (reverse u.onces)) i.ask)
by_room decls u i few b room = λ k. if few k || room k then Some TextCause.TooMany else follow_cause (Some (reverse u.onces)) i.ask

pub returns-in-Err : goal.returns-in-Err
returns-in-Err g c =
    let d = c.args.decls.now in
    let less = c.if-len-ge-MAX_STEPS.false in
    let len = c.len.ensures in
    let cause = by_room d (state_of c.args.self.now) (asked_at c.args.ask c.args.place.now) (grind (arith, nat_tests, less, len)) in
    let told = place_told d.places c.args.place.now c.requires c.in-Err.refused
    (subst (λ w. Refuses {T = ℕ} (place_fault d.places w) (Err c.in-Err.refused)) c.as_text.ensures c.in-Err.ensures.refused)
    (subst (λ w. AllowsUnless {T = ℕ} (place_fault d.places w) (Err c.in-Err.refused) DeclFault.OutOfMemory) c.as_text.ensures c.in-Err.ensures.allowed) in
    elim told [
      | inl full ↦ c.refused_cause.ensures.other (λ memory. let two = full.1 in cc) ∙ ap cause_of full.1 ∙ sym (ap owed (cause true full.0))
      | inr memory ↦ c.refused_cause.ensures.memory memory.1 ∙ sym (ap owed (cause false memory.0))
    ]

pub returns-in-Ok : goal.returns-in-Ok
returns-in-Ok g c =
    let d = c.args.decls.now in
    let less = c.if-len-ge-MAX_STEPS.false in
    let len = c.len.ensures in
    let room = ap (place_fault d.places) (sym c.as_text.ensures) ∙ not_refused _ c.in-Ok.place c.in-Ok.ensures.refused in
    MatchResult-weaker c.push.result c.push.ensures (λ _ pushes. record {
      few = omega (arith, less, len);
      room = room;
      place = c.in-Ok.ensures.added ∙ ap (with_place d) c.as_text.ensures;
      pushes = rw (c.in-Ok.ensures.number ∙ ap (place_number d.places) c.as_text.ensures) at pushes;
    }) (λ _ told. told ∙ sym (ap owed (by_room d (state_of c.args.self.now) (asked_at c.args.ask c.args.place.now)
    (grind (arith, nat_tests, less, len)) false (room_is d.places c.args.place.now c.requires room))))
