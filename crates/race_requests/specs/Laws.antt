-- The laws of the table and of the choices, which functions of src/laws.rt that do nothing have as their contracts.
use Rattle.std.specs.Prelude.{ℕ, ◌≡◌, ◌&&◌, not, true, false, List, [], ◌∷◌, Option, Some, None}
use Rattle.race_records.specs.declared.event.Cause.TheVariants.{SendClosed, CloseClosed, CloseNil, UnlockFree}
use Rattle.race_records.specs.declared.event.{Cause.TheVariants.RUnlockFree, Event.Event, Op.TheVariants.{Go, Exit}}
use Rattle.race_records.specs.declared.event.Op.TheVariants.{Read, Write, Send, Recv, Meet, RecvClosed, Close, Default}
use Rattle.race_records.specs.declared.event.Op.TheVariants.{Lock, Unlock, RLock, RUnlock, TryLock, TryRLock, TryFail}
use Rattle.race_records.specs.declared.event.Op.TheVariants.{OnceBegin, OnceEnd, OnceDone, Fault}
use Rattle.race_records.specs.declared.version.Version.{Version}
use Rattle.race_model.specs.{State.{over, runs}, Examples.does}
use Rattle.race_requests.specs.declared.request.{Answer.Answer, Ask.Ask, Offer.Offer, Waiter.Waiter}
use Rattle.race_requests.specs.{Table.{done_by, IsRow}, Choices.{choice, choices, event_of, is_legal_next, lone_event}}
use Rattle.race_requests.specs.{Choices.meet_event, Possible.{goes_on, meet_goes_on}, Rows.{capacities, waits, alone}}
use Rattle.race_requests.specs.Rows.{HasBranch, HasRow, Stays, sends_on, receives_from, three_started, one_meets_main}
use Rattle.race_requests.specs.Rows.{sends_or_receives, receives_or_sends, HasBothBranches, FailsAlone, is_sound_in}

-- the table has a row for a start and one for an exit, and in a run without events each goes on by it
pub record RowsOfGoroutines : Type 0 where
  pub start : HasRow [] (Ask.Go 1) (Go 1) (Some Answer.Unit)
  pub exit : HasRow [] Ask.Exit Exit None

-- a read finds the last value written, or 0
pub record RowsOfVariables : Type 0 where
  pub unwritten : HasRow [] (Ask.Read 0) (Read 0 0) (Some (Answer.Value 0))
  pub written : HasRow (does 0 (Write 0 7) ∷ []) (Ask.Read 0) (Read 0 7) (Some (Answer.Value 7))
  pub writes : HasRow [] (Ask.Write 0 7) (Write 0 7) (Some Answer.Unit)

-- a send fails on a closed channel, goes on where the buffer has room, and waits otherwise
pub record RowsOfSends : Type 0 where
  pub closed : HasRow (does 0 (Close 1) ∷ []) (Ask.Send (Some 1) 7) (Fault (SendClosed 1)) None
  pub closed_unbuffered : HasRow (does 0 (Close 0) ∷ []) (Ask.Send (Some 0) 7) (Fault (SendClosed 0)) None
  pub room : HasRow [] (Ask.Send (Some 1) 7) (Send 1 7) (Some Answer.Unit)
  pub full : Stays (does 0 (Send 1 7) ∷ []) (Ask.Send (Some 1) 8)
  pub unbuffered : Stays [] (Ask.Send (Some 0) 7)
  pub nil : Stays [] (Ask.Send None 7)

-- a receive takes the first value, then finds the channel closed, and waits otherwise
pub record RowsOfReceives : Type 0 where
  pub value : HasRow (does 0 (Send 1 7) ∷ []) (Ask.Recv (Some 1)) (Recv 1 7) (Some (Answer.Value 7))
  pub first : HasRow (does 0 (Send 2 7) ∷ does 0 (Send 2 8) ∷ []) (Ask.Recv (Some 2)) (Recv 2 7) (Some (Answer.Value 7))
  pub left : HasRow (does 0 (Send 1 7) ∷ does 0 (Close 1) ∷ []) (Ask.Recv (Some 1)) (Recv 1 7) (Some (Answer.Value 7))
  pub closed : HasRow (does 0 (Close 1) ∷ []) (Ask.Recv (Some 1)) (RecvClosed 1) (Some Answer.Closed)
  pub closed_unbuffered : HasRow (does 0 (Close 0) ∷ []) (Ask.Recv (Some 0)) (RecvClosed 0) (Some Answer.Closed)
  pub empty : Stays [] (Ask.Recv (Some 1))
  pub unbuffered : Stays [] (Ask.Recv (Some 0))
  pub nil : Stays [] (Ask.Recv None)

-- a close fails on a closed channel and on nil
pub record RowsOfCloses : Type 0 where
  pub open_channel : HasRow [] (Ask.Close (Some 0)) (Close 0) (Some Answer.Unit)
  pub closed : HasRow (does 0 (Close 0) ∷ []) (Ask.Close (Some 0)) (Fault (CloseClosed 0)) None
  pub nil : HasRow [] (Ask.Close None) (Fault CloseNil) None

-- a lock waits for whoever holds it, readers share it, and an unlock of what isn't locked fails
pub record RowsOfLocks : Type 0 where
  pub free : HasRow [] (Ask.Lock 0) (Lock 0) (Some Answer.Unit)
  pub held : Stays (does 0 (Lock 0) ∷ []) (Ask.Lock 0)
  pub read_held : Stays (does 0 (RLock 0) ∷ []) (Ask.Lock 0)
  pub reader : HasRow [] (Ask.RLock 0) (RLock 0) (Some Answer.Unit)
  pub second_reader : HasRow (does 0 (RLock 0) ∷ []) (Ask.RLock 0) (RLock 0) (Some Answer.Unit)
  pub reader_waits : Stays (does 0 (Lock 0) ∷ []) (Ask.RLock 0)
  pub unlock : HasRow (does 0 (Lock 0) ∷ []) (Ask.Unlock 0) (Unlock 0) (Some Answer.Unit)
  pub unlock_free : HasRow [] (Ask.Unlock 0) (Fault (UnlockFree 0)) None
  pub runlock : HasRow (does 0 (RLock 0) ∷ []) (Ask.RUnlock 0) (RUnlock 0) (Some Answer.Unit)
  pub runlock_free : HasRow [] (Ask.RUnlock 0) (Fault (RUnlockFree 0)) None

-- a try of a lock that can be taken has two choices, the lock and then the failure, and another has the failure alone; one that took the lock holds
-- it, and one that failed doesn't
pub record RowsOfTries : Type 0 where
  pub free : HasBothBranches [] (Ask.TryLock 0) (TryLock 0) (TryFail 0)
  pub held : FailsAlone (does 0 (Lock 0) ∷ []) (Ask.TryLock 0) (TryFail 0)
  pub read_held : FailsAlone (does 0 (RLock 0) ∷ []) (Ask.TryLock 0) (TryFail 0)
  pub taken : FailsAlone (does 0 (TryLock 0) ∷ []) (Ask.TryLock 0) (TryFail 0)
  pub taken_for_reading : FailsAlone (does 0 (TryRLock 0) ∷ []) (Ask.TryLock 0) (TryFail 0)
  pub missed : HasBothBranches (does 0 (TryFail 0) ∷ []) (Ask.TryLock 0) (TryLock 0) (TryFail 0)
  pub unlocked : HasBothBranches (does 0 (TryLock 0) ∷ does 0 (Unlock 0) ∷ []) (Ask.TryLock 0) (TryLock 0) (TryFail 0)
  pub reader : HasBothBranches [] (Ask.TryRLock 0) (TryRLock 0) (TryFail 0)
  pub second_reader : HasBothBranches (does 0 (RLock 0) ∷ []) (Ask.TryRLock 0) (TryRLock 0) (TryFail 0)
  pub reader_fails : FailsAlone (does 0 (Lock 0) ∷ []) (Ask.TryRLock 0) (TryFail 0)
  pub reader_taken : FailsAlone (does 0 (TryLock 0) ∷ []) (Ask.TryRLock 0) (TryFail 0)
  pub reader_taken_for_reading : HasBothBranches (does 0 (TryRLock 0) ∷ []) (Ask.TryRLock 0) (TryRLock 0) (TryFail 0)
  pub reader_missed : HasBothBranches (does 0 (TryFail 0) ∷ []) (Ask.TryRLock 0) (TryRLock 0) (TryFail 0)
  pub reader_unlocked : HasBothBranches (does 0 (TryLock 0) ∷ does 0 (Unlock 0) ∷ []) (Ask.TryRLock 0) (TryRLock 0) (TryFail 0)
  pub runlocked : HasBothBranches (does 0 (TryRLock 0) ∷ does 0 (RUnlock 0) ∷ []) (Ask.TryLock 0) (TryLock 0) (TryFail 0)
  pub lock_waits : Stays (does 0 (TryLock 0) ∷ []) (Ask.Lock 0)
  pub lock_waits_for_reader : Stays (does 0 (TryRLock 0) ∷ []) (Ask.Lock 0)
  pub reader_waits : Stays (does 0 (TryLock 0) ∷ []) (Ask.RLock 0)
  pub reader_joins : HasRow (does 0 (TryRLock 0) ∷ []) (Ask.RLock 0) (RLock 0) (Some Answer.Unit)
  pub unlock : HasRow (does 0 (TryLock 0) ∷ []) (Ask.Unlock 0) (Unlock 0) (Some Answer.Unit)
  pub unlock_missed : HasRow (does 0 (TryFail 0) ∷ []) (Ask.Unlock 0) (Fault (UnlockFree 0)) None
  pub unlock_of_reader : HasRow (does 0 (TryRLock 0) ∷ []) (Ask.Unlock 0) (Fault (UnlockFree 0)) None
  pub runlock : HasRow (does 0 (TryRLock 0) ∷ []) (Ask.RUnlock 0) (RUnlock 0) (Some Answer.Unit)
  pub runlock_missed : HasRow (does 0 (TryFail 0) ∷ []) (Ask.RUnlock 0) (Fault (RUnlockFree 0)) None
  pub runlock_of_writer : HasRow (does 0 (TryLock 0) ∷ []) (Ask.RUnlock 0) (Fault (RUnlockFree 0)) None
  -- neither branch has the row of the other, nor that of a plain lock
  pub not_behind : (told : Option Answer) → IsRow (Ask.TryLock 0) 1 (TryLock 0) told → ⊥
  pub not_first : (told : Option Answer) → IsRow (Ask.TryLock 0) 0 (TryFail 0) told → ⊥
  pub not_for_reading : (k : ℕ) (told : Option Answer) → IsRow (Ask.TryLock 0) k (TryRLock 0) told → ⊥
  pub not_plain : (k : ℕ) (told : Option Answer) → IsRow (Ask.TryLock 0) k (Lock 0) told → ⊥
  pub reader_not_behind : (told : Option Answer) → IsRow (Ask.TryRLock 0) 1 (TryRLock 0) told → ⊥
  pub reader_not_first : (told : Option Answer) → IsRow (Ask.TryRLock 0) 0 (TryFail 0) told → ⊥
  pub reader_not_for_writing : (k : ℕ) (told : Option Answer) → IsRow (Ask.TryRLock 0) k (TryLock 0) told → ⊥
  pub reader_not_plain : (k : ℕ) (told : Option Answer) → IsRow (Ask.TryRLock 0) k (RLock 0) told → ⊥

-- a try is sound in version 2 alone, and one to lock for reading where the lock is an rwmutex
pub record SoundTries : Type 0 where
  pub try_lock : is_sound_in Version.Two (Ask.TryLock 0) ≡ true
  pub try_lock_before : is_sound_in Version.One (Ask.TryLock 0) ≡ false
  pub lock_before : is_sound_in Version.One (Ask.Lock 0) ≡ true
  pub try_rlock : is_sound_in Version.Two (Ask.TryRLock 1) ≡ true
  pub try_rlock_of_mutex : is_sound_in Version.Two (Ask.TryRLock 0) ≡ false
  pub try_rlock_before : is_sound_in Version.One (Ask.TryRLock 1) ≡ false
  pub undeclared : is_sound_in Version.Two (Ask.TryLock 2) ≡ false
  pub undeclared_for_reading : is_sound_in Version.Two (Ask.TryRLock 2) ≡ false

-- the function of a once is run once, and who comes while it runs waits
pub record RowsOfOnces : Type 0 where
  pub first : HasRow [] (Ask.Do 0) (OnceBegin 0) (Some Answer.Run)
  pub running : Stays (does 0 (OnceBegin 0) ∷ []) (Ask.Do 0)
  pub ends : HasRow (does 0 (OnceBegin 0) ∷ []) (Ask.EndDo 0) (OnceEnd 0) (Some Answer.Unit)
  pub done : HasRow (does 0 (OnceBegin 0) ∷ does 0 (OnceEnd 0) ∷ []) (Ask.Do 0) (OnceDone 0) (Some Answer.AlreadyDone)

-- who sends on an unbuffered channel meets who receives from it: one event, listed at the sender
pub record RowsOfMeets : Type 0 where
  pub only : choices capacities three_started (waits 0 (Ask.Recv (Some 0)) ∷ waits 1 (Ask.Send (Some 0) 7) ∷ []) ≡ choice 1 0 1 1 ∷ []
  pub event : event_of three_started (waits 0 (Ask.Recv (Some 0)) ∷ waits 1 (Ask.Send (Some 0) 7) ∷ []) (choice 1 0 1 1) ≡ Some one_meets_main
  pub sender : IsRow (Ask.Send (Some 0) 7) 0 (done_by 1 one_meets_main.op) (Some Answer.Unit)
  pub receiver : IsRow (Ask.Recv (Some 0)) 0 (done_by 0 one_meets_main.op) (Some (Answer.Value 7))
  pub other_channel : choices capacities three_started (waits 0 (Ask.Recv (Some 0)) ∷ waits 1 (Ask.Send (Some 2) 7) ∷ []) ≡ choice 1 0 0 0 ∷ []

-- a select goes on by an offer as that does alone, and by its default, which comes behind the offers if it has one, where no offer can
pub record RowsOfSelects : Type 0 where
  pub sends : HasBranch [] (Ask.Select (Offer.Recv (Some 2) ∷ Offer.Send (Some 1) 7 ∷ []) false) 1 (Send 1 7) (Some (Answer.Chosen 1 None))
  pub receives :
      HasBranch (does 0 (Send 1 7) ∷ []) (Ask.Select (Offer.Send (Some 0) 5 ∷ Offer.Recv (Some 1) ∷ []) true) 1 (Recv 1 7) (Some (Answer.Chosen 1 (Some 7)))
  pub finds_closed : HasBranch (does 0 (Close 1) ∷ []) (Ask.Select (Offer.Recv (Some 1) ∷ []) true) 0 (RecvClosed 1) (Some (Answer.Chosen 0 None))
  pub fails : HasBranch (does 0 (Close 0) ∷ []) (Ask.Select (Offer.Send (Some 0) 5 ∷ []) true) 0 (Fault (SendClosed 0)) None
  pub by_default :
      HasBranch [] (Ask.Select (Offer.Send (Some 0) 5 ∷ Offer.Recv (Some 1) ∷ []) true) 2 (Default (sends_on (Some 0) ∷ receives_from (Some 1) ∷ []))
      (Some Answer.DefaultTaken)
  pub behind_with : lone_event [] (waits 0 (Ask.Select (Offer.Recv (Some 0) ∷ []) true)) 1
      ≡ Some (record { who = 0; op = Default (receives_from (Some 0) ∷ []); place = 5; place2 = None })
  pub behind_without : lone_event [] (waits 0 (Ask.Select (Offer.Recv (Some 0) ∷ []) false)) 1 ≡ None
  pub waits_without : Stays [] (Ask.Select (Offer.Send (Some 0) 5 ∷ Offer.Recv (Some 1) ∷ []) false)
  pub nil : HasBranch [] (Ask.Select (Offer.Send None 5 ∷ Offer.Recv None ∷ []) true) 2
      (Default (sends_on None ∷ receives_from None ∷ [])) (Some Answer.DefaultTaken)
  pub nil_waits : Stays [] (Ask.Select (Offer.Send None 5 ∷ Offer.Recv None ∷ []) false)
  pub nothing : HasBranch [] (Ask.Select [] true) 0 (Default []) (Some Answer.DefaultTaken)
  pub nothing_waits : Stays [] (Ask.Select [] false)
  pub twice : choices capacities (does 0 (Send 1 7) ∷ []) (alone (Ask.Select (Offer.Recv (Some 1) ∷ Offer.Recv (Some 1) ∷ []) true))
      ≡ choice 0 0 0 0 ∷ choice 0 1 0 0 ∷ []

-- two selects meet by each pair of their offers that sends and receives; none meets itself, and no default is taken beside a meet
pub record SelectsMeet : Type 0 where
  pub either_way : choices capacities three_started (waits 0 sends_or_receives ∷ waits 1 receives_or_sends ∷ []) ≡ choice 0 0 2 1 ∷ choice 1 1 1 2 ∷ []
  pub event : event_of three_started (waits 0 sends_or_receives ∷ waits 1 receives_or_sends ∷ []) (choice 1 1 1 2) ≡ Some one_meets_main
  pub sender : IsRow receives_or_sends 1 (done_by 1 one_meets_main.op) (Some (Answer.Chosen 1 None))
  pub receiver : IsRow sends_or_receives 1 (done_by 0 one_meets_main.op) (Some (Answer.Chosen 1 (Some 7)))
  pub itself : Stays three_started sends_or_receives
  pub sender_has_default : choices capacities three_started (waits 0 (Ask.Select (Offer.Send (Some 0) 5 ∷ []) true) ∷ waits 1 (Ask.Recv (Some 0)) ∷ [])
      ≡ choice 0 0 2 1 ∷ []
  pub receiver_has_default : choices capacities three_started (waits 0 (Ask.Select (Offer.Recv (Some 0) ∷ []) true) ∷ waits 1 (Ask.Send (Some 0) 7) ∷ [])
      ≡ choice 1 0 1 1 ∷ []
  pub others_meet : choices capacities three_started
      (waits 0 (Ask.Select (Offer.Recv (Some 1) ∷ []) true) ∷ waits 1 (Ask.Send (Some 0) 7) ∷ waits 2 (Ask.Recv (Some 0)) ∷ [])
      ≡ choice 0 1 0 0 ∷ choice 1 0 3 1 ∷ []

-- several senders and receivers of one unbuffered channel: by the sender's place, and then by the receiver's
abbrev pub MeetsAreListedBySender : Type 0
MeetsAreListedBySender =
    choices capacities three_started
    (waits 0 (Ask.Recv (Some 0)) ∷ waits 1 (Ask.Send (Some 0) 7) ∷ waits 2 (Ask.Recv (Some 0)) ∷ waits 3 (Ask.Send (Some 0) 8) ∷ [])
    ≡ choice 1 0 1 1 ∷ choice 1 0 3 1 ∷ choice 3 0 1 1 ∷ choice 3 0 3 1 ∷ []

-- what goes on alone stands among the meets by the place of its request
abbrev pub OthersStandAtTheirPlace : Type 0
OthersStandAtTheirPlace =
    choices capacities three_started (waits 0 (Ask.Send (Some 0) 7) ∷ waits 1 (Ask.Read 0) ∷ waits 2 (Ask.Recv (Some 0)) ∷ waits 3 Ask.Exit ∷ [])
    ≡ choice 0 0 3 1 ∷ choice 1 0 0 0 ∷ choice 3 0 0 0 ∷ []

-- no goroutine meets itself
abbrev pub NobodyMeetsItself : Type 0
NobodyMeetsItself =
    (caps : ℕ → ℕ) (past : List Event) (w r : Waiter) (k q : ℕ) → w.who ≡ r.who → is_legal_next caps past (meet_event w k r q) ≡ false

-- each request goes on alone, by each of its branches, just where the words of the run so far say so
abbrev pub EachRowGoesOn : Type 0
EachRowGoesOn =
    (caps : ℕ → ℕ) (past : List Event) (w : Waiter) (k : ℕ)
    → is_legal_next caps past (lone_event past w k) ≡ (not (over past) && (runs w.who past && goes_on caps past w.who w.asked.ask k))

-- so does a sender with a receiver of the same channel
abbrev pub EachMeetGoesOn : Type 0
EachMeetGoesOn =
    (caps : ℕ → ℕ) (past : List Event) (sender receiver place place2 c v : ℕ)
    → is_legal_next caps past (Some (record { who = sender; op = Meet receiver c v; place = place; place2 = Some place2 }))
    ≡ (not (over past) && ((runs sender past && runs receiver past) && meet_goes_on caps past sender receiver c))
