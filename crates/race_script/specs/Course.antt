-- How a goroutine's log goes along its body, and what was done in a step of the log.
use Rattle.std.specs.Prelude.{ℕ, ◌≡◌, ◌==◌, ◌&&◌, Bool, true, false, if◌then◌else◌, List, map, slice_get, Option, Some}
use Rattle.std.specs.{Prelude.None, Bool.beq, Option.{option_map, option_and_then}}
use Rattle.race_records.specs.{Cases.same_chan, declared.event.{Cause.Cause, Event.Event, Op.{Op, TheVariants.Go}}}
use Rattle.race_records.specs.declared.event.Op.TheVariants.{Exit, Read, Write, Send, Recv, RecvClosed, Close, Default}
use Rattle.race_records.specs.declared.event.Op.TheVariants.{Lock, Unlock, RLock, RUnlock, TryLock, TryRLock, TryFail}
use Rattle.race_records.specs.declared.event.Op.TheVariants.{OnceBegin, OnceEnd, OnceDone, Fault}
use Rattle.race_requests.specs.declared.request.{Answer.Answer, Ask.Ask, Offer.Offer, Request.Request}
use Rattle.race_requests.specs.Offers.{case_of, same_offers}
use Rattle.race_script.specs.{Bodies.is_exit, Certificate.{FitsAt, IsStuckAt, IsRun, after_event}}
use Rattle.race_script.specs.{Program.{Instruction, asked_by}, Run.is_done}

-- the same is asked
abbrev pub same_ask : Ask → Ask → Bool
same_ask (Ask.Go g) (Ask.Go h) = g == h
same_ask Ask.Exit Ask.Exit = true
same_ask (Ask.Read x) (Ask.Read y) = x == y
same_ask (Ask.Write x v) (Ask.Write y w) = (x == y) && (v == w)
same_ask (Ask.Send c v) (Ask.Send d w) = same_chan c d && (v == w)
same_ask (Ask.Recv c) (Ask.Recv d) = same_chan c d
same_ask (Ask.Close c) (Ask.Close d) = same_chan c d
same_ask (Ask.Select offers a) (Ask.Select others b) = same_offers offers others && beq a b
same_ask (Ask.Lock l) (Ask.Lock m) = l == m
same_ask (Ask.Unlock l) (Ask.Unlock m) = l == m
same_ask (Ask.RLock l) (Ask.RLock m) = l == m
same_ask (Ask.RUnlock l) (Ask.RUnlock m) = l == m
same_ask (Ask.TryLock l) (Ask.TryLock m) = l == m
same_ask (Ask.TryRLock l) (Ask.TryRLock m) = l == m
same_ask (Ask.Do o) (Ask.Do p) = o == p
same_ask (Ask.EndDo o) (Ask.EndDo p) = o == p
same_ask _ _ = false

-- the value that the answer tells
abbrev pub value_in : Answer → Option ℕ
value_in (Answer.Value v) = Some v
value_in _ = None

-- whether the lock was taken, as the answer tells
abbrev pub tried_in : Answer → Option Bool
tried_in (Answer.Tried taken) = Some taken
tried_in _ = None

-- what was done by who received that value, or found the channel closed
abbrev pub received : ℕ → Option ℕ → Op
received c (Some v) = Recv c v
received c None = RecvClosed c

-- what was done by the offer, with that value received, if any; nothing with a nil channel
abbrev pub made_by_offer : Offer → Option ℕ → Option Op
made_by_offer (Offer.Send c v) got = option_map (λ d. Send d v) c
made_by_offer (Offer.Recv c) got = option_map (λ d. received d got) c

-- what was done by who asked to select and was told the answer
abbrev pub made_by_select : List Offer → Answer → Option Op
made_by_select offers (Answer.Chosen k got) = option_and_then (λ o. made_by_offer o got) (slice_get offers k)
made_by_select offers Answer.DefaultTaken = Some (Default (map case_of offers))
made_by_select offers _ = None

-- what was done by who asked that and was told the answer; nothing where no row of the table has both
abbrev pub made_by : Ask → Answer → Option Op
made_by (Ask.Go h) told = Some (Go h)
made_by Ask.Exit told = None
made_by (Ask.Read x) told = option_map (Read x) (value_in told)
made_by (Ask.Write x v) told = Some (Write x v)
made_by (Ask.Send c v) told = made_by_offer (Offer.Send c v) None
made_by (Ask.Recv c) told = made_by_offer (Offer.Recv c) (value_in told)
made_by (Ask.Close c) told = option_map Close c
made_by (Ask.Select offers has_default) told = made_by_select offers told
made_by (Ask.Lock l) told = Some (Lock l)
made_by (Ask.Unlock l) told = Some (Unlock l)
made_by (Ask.RLock l) told = Some (RLock l)
made_by (Ask.RUnlock l) told = Some (RUnlock l)
made_by (Ask.TryLock l) told = option_map (λ taken. if taken then TryLock l else TryFail l) (tried_in told)
made_by (Ask.TryRLock l) told = option_map (λ taken. if taken then TryRLock l else TryFail l) (tried_in told)
made_by (Ask.Do o) told = Some (if is_done told then OnceDone o else OnceBegin o)
made_by (Ask.EndDo o) told = Some (OnceEnd o)

-- what was done in a step of a log, where the run fails by that cause, if it fails: who is told nothing returns or fails
abbrev pub made_in : Ask → Option Answer → Option Cause → Option Op
made_in ask (Some told) fault = made_by ask told
made_in ask None fault = if is_exit ask then Some Exit else option_map Fault fault

-- where the operation is a fault, it is that one
abbrev pub FailsBy : Option Cause → Op → Type 0
FailsBy fault op = (cause : Cause) → op ≡ Fault cause → fault ≡ Some cause

-- the position behind the event, or none where the body's step at the position doesn't make it
abbrev pub IsPassed : List Instruction → List (List ℕ) → ℕ → ℕ → Event → Option ℕ → Type 0
IsPassed body places g p e (Some q) = FitsAt body places g p e × (q ≡ after_event (asked_by body) p e.op)
IsPassed body places g p e None = FitsAt body places g p e → ⊥

-- where the goroutine is stuck; nowhere where it runs its body
abbrev pub IsStop : List Instruction → List (List ℕ) → ℕ → List Event → Option Request → Option ℕ → Type 0
IsStop body places g part waiting (Some p) = IsStuckAt body places g part waiting p
IsStop body places g part waiting None = IsRun body places g part waiting
