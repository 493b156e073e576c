-- What legality says of the next operation gives the room that its clocks need.
use Rattle.std.proofs.Common.{◌≡◌, ℕ, ◌+◌, ◌-◌, ◌<◌, ◌==◌, true, false, List, length, sym, ◌∙◌, inl, inr, arith, eq-eqb}
use Rattle.std.proofs.lemmas.Bool.{cases_lt}
use Rattle.race_records.specs.declared.event.Event.{Event}
use Rattle.race_model.specs.Events.{count, sends, receives}
use Rattle.race_clock.specs.{ClocksState.ChannelState, StandsFor.StandsForChannel}

module _ (caps : ℕ → ℕ) (past : List Event) (c : ℕ) (ch : ChannelState) (S : StandsForChannel caps past c ch) where
  -- a send into a buffer that isn't full finds room
  pub send_room : (count (sends c) past - count (receives c) past == caps c) ≡ false → count (sends c) past < count (receives c) past + caps c
  send_room short =
      let sent : count (receives c) past + length ch.sent ≡ count (sends c) past = S.sent.all in
      let freed : count (sends c) past - caps c + length ch.freed ≡ count (receives c) past = S.freed.all in
      elim (cases_lt (count (sends c) past) (count (receives c) past + caps c)) [
        | inl less ↦ less
        | inr le ↦
            let full : (count (sends c) past - count (receives c) past == caps c) ≡ true =
            eq-eqb (count (sends c) past - count (receives c) past) (caps c) (omega (arith, sent, freed, le)) in
            absurd (let wrong : true ≡ false = sym full ∙ short in cc)
      ]

  -- a receive from a buffer that isn't empty finds a value
  pub receive_room : (count (sends c) past == count (receives c) past) ≡ false → count (receives c) past < count (sends c) past
  receive_room some =
      let sent : count (receives c) past + length ch.sent ≡ count (sends c) past = S.sent.all in
      elim (cases_lt (count (receives c) past) (count (sends c) past)) [
        | inl less ↦ less
        | inr le ↦
            let empty : (count (sends c) past == count (receives c) past) ≡ true =
            eq-eqb (count (sends c) past) (count (receives c) past) (omega (arith, sent, le)) in
            absurd (let wrong : true ≡ false = sym empty ∙ some in cc)
      ]
