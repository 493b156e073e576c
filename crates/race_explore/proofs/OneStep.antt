-- A hub whose routines ask one thing after an answer comes from a state to one state alone, by a turn, and by a choice.
use Rattle.std.proofs.Common.{ℕ, ◌≡◌, ◌<◌, ◌-◌, ◌%◌, ◌++◌, List, [], ◌∷◌, length, Option, Some, None, sym, ap, ◌∙◌, arith, subst}
use Rattle.std.{proofs.lemmas.Option.{none-some, slice_get_within}, specs.Prelude.{if◌then◌else◌, slice_get, slice_set}}
use Rattle.race_records.specs.declared.event.{Event.Event, Op.Op}
use Rattle.race_requests.specs.declared.{choice.Choice.Choice, request.{Answer.Answer, Request.Request, Waiter.Waiter}}
use Rattle.race_requests.specs.{Table.{told_at, done_by}}
use Rattle.race_hub.specs.{Job.{JobState, asking}, Hub.{HubState, choices_of}, Logs.with_step}
use Rattle.race_hub.specs.Fires.{Fires, IsFired, IsPartnerRow, partner_of, without, without_leaver, goes_on, begins, started_by}
use Rattle.race_hub.specs.Submits.{Takes, Submits, without_first, ends_hub}
use Rattle.race_record.specs.Serial.{IsTurned, TakesTurn}

pub some_is : {X : Type 0} (x y : X) → Some x ≡ Some y → x ≡ y
some_is x y is = ap (λ o. elim o [ Some z ↦ z | None ↦ x ]) is

pub head_is : {X : Type 0} (x y : X) (xs ys : List X) → x ∷ xs ≡ y ∷ ys → x ≡ y
head_is x y xs ys is = ap (λ l. elim l [ [] ↦ x | z ∷ zs ↦ z ]) is

pub tail_is : {X : Type 0} (x y : X) (xs ys : List X) → x ∷ xs ≡ y ∷ ys → xs ≡ ys
tail_is x y xs ys is = ap (λ l. elim l [ [] ↦ xs | z ∷ zs ↦ zs ]) is

-- what is told a partner is one thing
one_told : (partner : Option Waiter) (branch : ℕ) (op : Op) (one other : Option Answer) → IsPartnerRow partner branch op one
    → IsPartnerRow partner branch op other → one ≡ other
one_told (Some w) branch op one other (some, row) (some2, row2) = some_is one other (sym row ∙ row2)
one_told None branch op one other none none2 = none ∙ sym none2

module _ {R : Type 0} where
  -- the hub once the job is out
  taken : HubState R → JobState R → List (ℕ × Answer) → HubState R
  taken h job ready = record {
    decls = h.decls;
    events = h.events;
    limit = h.limit;
    routines = slice_set h.routines job.who None;
    logs = slice_set h.logs job.who [];
    ready = ready;
    waiting = h.waiting;
    out = h.out ++ job.who ∷ [];
    bad = h.bad;
  }

  takes_is : (old new : HubState R) (job : JobState R) → Takes old job new → new ≡ taken old job new.ready
  unfolding taken
  takes_is old new job t =
      let (decls, events, limit, waiting, bad) = t.same in
      λ i. record {
        decls = decls i;
        events = events i;
        limit = limit i;
        routines = t.routines i;
        logs = t.logs i;
        ready = new.ready;
        waiting = waiting i;
        out = t.out i;
        bad = bad i;
      }

  -- and once it is back
  put : HubState R → JobState R → Request → HubState R
  put h job asked = record {
    decls = h.decls;
    events = h.events;
    limit = h.limit;
    routines = slice_set h.routines job.who (Some job.routine);
    logs = slice_set h.logs job.who job.log;
    ready = h.ready;
    waiting = h.waiting ++ record { who = job.who; asked = asked } ∷ [];
    out = without_first job.who h.out;
    bad = if ends_hub h job then Some job.who else h.bad;
  }

  submits_is : (old new : HubState R) (job : JobState R) (s : Submits old job new) → new ≡ put old job s.asked
  unfolding put
  submits_is old new job s =
      let (decls, events, limit, ready) = s.same in
      λ i. record {
        decls = decls i;
        events = events i;
        limit = limit i;
        routines = s.routines i;
        logs = s.logs i;
        ready = ready i;
        waiting = s.waiting i;
        out = s.out i;
        bad = s.bad i;
      }

  -- and once a choice is performed
  performed : HubState R → Choice → Waiter → Event → Option Answer → Option Answer → HubState R
  performed h t w e told partner_told = record {
    decls = h.decls;
    events = h.events ++ e ∷ [];
    limit = h.limit;
    routines = without_leaver (Some w) told h.routines;
    logs = with_step (partner_of t h.waiting) partner_told (with_step (Some w) told h.logs);
    ready = h.ready ++ goes_on (Some w) told ++ goes_on (partner_of t h.waiting) partner_told ++ begins (started_by e.op);
    waiting = without t h.waiting;
    out = h.out;
    bad = h.bad;
  }

  fires_is : (old new : HubState R) (t : Choice) (f : Fires old t new) → new ≡ performed old t f.w f.e f.told f.partner_told
  unfolding performed
  fires_is old new t f =
      let (decls, limit, out, bad) = f.same in
      λ i. record {
        decls = decls i;
        events = f.events i;
        limit = limit i;
        routines = f.routines i;
        logs = f.logs i;
        ready = f.ready i;
        waiting = f.waiting i;
        out = out i;
        bad = bad i;
      }

  -- a choice of a number is one choice, and it has one event and tells one thing
  one_choice : (old one other : HubState R) (t : Choice) (f : Fires old t one) (g : Fires old t other) → one ≡ other
  one_choice old one other t f g =
      let waiter : f.w ≡ g.w = some_is f.w g.w (sym f.asks ∙ g.asks) in
      let made : f.e ≡ g.e = some_is f.e g.e (sym f.makes ∙ g.makes) in
      let row : told_at f.w.asked.ask t.offer (done_by f.w.who f.e.op) ≡ Some g.told =
      (λ i. told_at (waiter i).asked.ask t.offer (done_by (waiter i).who (made i).op)) ∙ g.row in
      let told : f.told ≡ g.told = some_is f.told g.told (sym f.row ∙ row) in
      let partner : f.partner_told ≡ g.partner_told =
      one_told (partner_of t old.waiting) (t.partner_offer - 1) f.e.op f.partner_told g.partner_told f.partner_row
      (subst (λ (e : Event). IsPartnerRow (partner_of t old.waiting) (t.partner_offer - 1) e.op g.partner_told) (sym made) g.partner_row) in
      fires_is old one t f ∙ (λ i. performed old t (waiter i) (made i) (told i) (partner i)) ∙ sym (fires_is old other t g)

  pub one_fired : (pick : ℕ) (old one other : HubState R) → IsFired pick old one → IsFired pick old other → one ≡ other
  one_fired pick old one other f g =
      let chosen : f.t ≡ g.t = some_is f.t g.t (sym f.chosen ∙ g.chosen) in
      one_choice old one other g.t (subst (λ t. Fires old t one) chosen f.fires) g.fires

  -- there is a choice
  pub choice_there : (pick : ℕ) (old new : HubState R) → IsFired pick old new → 0 < length (choices_of old)
  choice_there pick old new f =
      let within = slice_get_within (choices_of old) (pick % length (choices_of old)) f.t f.chosen in omega (arith, within)

  -- one of the same number modulo the count of choices is the same
  pub fired_modulo : (pick number : ℕ) (old new : HubState R) → number % length (choices_of old) ≡ pick % length (choices_of old)
      → IsFired pick old new → IsFired number old new
  fired_modulo pick number old new same f = record {
    t = f.t;
    running = f.running;
    chosen = ap (slice_get (choices_of old)) same ∙ f.chosen;
    fires = f.fires;
  }

module _ {R : Type 0} (asks : R → Answer → Request → R → Type 0)
    (one_ask : (old : R) (answer : Answer) (q p : Request) (r s : R) → asks old answer q r → asks old answer p s → (q ≡ p) × (r ≡ s)) where
  -- a turn leaves one job
  one_job : (asked asked2 : Option Request) (job turned turned2 : JobState R) → asked ≡ None → asked2 ≡ None → IsTurned asks asked job turned
      → IsTurned asks asked2 job turned2 → turned ≡ turned2
  one_job (Some q) asked2 job turned turned2 none none2 is is2 = absurd (none-some q (sym none))
  one_job None (Some q) job turned turned2 none none2 is is2 = absurd (none-some q (sym none2))
  one_job None None job turned turned2 none none2 (q, r, asks_q, is) (p, s, asks_p, is2) =
      let same = one_ask job.routine job.answer q p r s asks_q asks_p in
      is ∙ (λ i. asking job (same.1 i) (same.0 i)) ∙ sym is2

  pub one_turn : (old one other : HubState R) → TakesTurn asks old one → TakesTurn asks old other → one ≡ other
  one_turn old one other t u =
      let first = head_is (t.job.who, t.job.answer) (u.job.who, u.job.answer) t.between.ready u.between.ready (sym t.takes.ready ∙ u.takes.ready) in
      let ready = tail_is (t.job.who, t.job.answer) (u.job.who, u.job.answer) t.between.ready u.between.ready (sym t.takes.ready ∙ u.takes.ready) in
      let who : t.job.who ≡ u.job.who = ap (λ (p : ℕ × Answer). p.0) first in
      let answer : t.job.answer ≡ u.job.answer = ap (λ (p : ℕ × Answer). p.1) first in
      let routine : t.job.routine ≡ u.job.routine =
      some_is t.job.routine u.job.routine (some_is (Some t.job.routine) (Some u.job.routine)
      (sym t.takes.routine ∙ ap (slice_get old.routines) who ∙ u.takes.routine)) in
      let log : t.job.log ≡ u.job.log = some_is t.job.log u.job.log (sym t.takes.log ∙ ap (slice_get old.logs) who ∙ u.takes.log) in
      let asked : t.job.asked ≡ u.job.asked = t.takes.asked ∙ sym u.takes.asked in
      let job : t.job ≡ u.job = (λ i. record { who = who i; routine = routine i; answer = answer i; log = log i; asked = asked i }) in
      let between : t.between ≡ u.between =
      takes_is old t.between t.job t.takes ∙ (λ i. taken old (job i) (ready i)) ∙ sym (takes_is old u.between u.job u.takes) in
      let turned : t.turned ≡ u.turned =
      one_job t.job.asked u.job.asked u.job t.turned u.turned t.takes.asked u.takes.asked
      (subst (λ j. IsTurned asks t.job.asked j t.turned) job t.turns) u.turns in
      let question : t.submits.asked ≡ u.submits.asked =
      some_is t.submits.asked u.submits.asked (sym t.submits.asks ∙ ap (λ (j : JobState R). j.asked) turned ∙ u.submits.asks) in
      submits_is t.between one t.turned t.submits ∙ (λ i. put (between i) (turned i) (question i)) ∙ sym (submits_is u.between other u.turned u.submits)

module _ {R : Type 0} (asks : R → Answer → Request → R → Type 0) where
  -- who takes a turn was ready, and a choice happens where nobody is
  pub turn_or_choice : (old new : HubState R) → TakesTurn asks old new → old.ready ≡ [] → ⊥
  turn_or_choice old new t none = by old.ready t.takes.ready none
    where
      by : (ready : List (ℕ × Answer)) → ready ≡ (t.job.who, t.job.answer) ∷ t.between.ready → ready ≡ [] → ⊥
      by [] is none = none-some {A = ℕ × Answer} (t.job.who, t.job.answer) (ap (λ (l : List (ℕ × Answer)). elim l [ [] ↦ None | x ∷ xs ↦ Some x ]) is)
      by (x ∷ xs) is none = none-some x (sym (ap (λ (l : List (ℕ × Answer)). elim l [ [] ↦ None | y ∷ ys ↦ Some y ]) none))
