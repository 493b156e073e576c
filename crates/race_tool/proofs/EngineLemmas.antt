-- What an engine promises, by how it ends.
use Rattle.std.proofs.Common.{ℕ, ◌≡◌, inl, inr, Bool, true, false, IsTrue, List, [], Option, Some, None, Result, Ok}
use Rattle.std.proofs.Common.{Err, IfOk, MatchResult, refl, sym, ap, subst, ◌∙◌, arith, append-nil}
use Rattle.std.{proofs.lemmas.Option.none-some, specs.Prelude.⊤}
use Rattle.race_records.specs.declared.{sink.{Sink.Sink, WriteFault.WriteFault}, source.Source.Source}
use Rattle.race_records.specs.Devices.{unread, written, source_failures}
use Rattle.race_text.specs.{declared.cause.TextFault.TextFault, Lines.{Causes, first_fault}, Output.Writes}
use Rattle.race_text.proofs.FedLemmas.{ended_fault_stays}
use Rattle.race_tool.specs.{declared.input.ReadFault.ReadFault, Input.{IsInput, Reads, ReadsBy, ReadsInput, IsReadBy}}
use Rattle.race_tool.specs.Outcome.{status_of_fault, IsOfAFinding, IsRightFor, Sends, Answers, ReadsAndWrites, ReadsWhere}
use Rattle.race_tool.{specs.{declared.reply.Reply.Reply, Reply.IfFound}, proofs.InputLemmas.itself}
use Rattle.race_tool.specs.declared.status.TheConstants as status

-- the input was read
module _ {R V : Type 0} (IsText : V → List ℕ → Type 0) (causes : Causes) (remaining : R → Option (List ℕ)) (source source_now : Source R)
    (given : Result (Result V TextFault) ReadFault) (reads : ReadsInput IsText causes remaining source source_now given)
    (text : Result V TextFault) (is : given ≡ Ok text) where
  pub was_read : ReadsBy IsText causes (unread remaining source) (unread remaining source_now) text
  was_read =
      subst (λ (g : Result (Result V TextFault) ReadFault). IfOk g (λ t. ReadsBy IsText causes (unread remaining source) (unread remaining source_now) t))
      is reads.ok

  -- what holds of each list of bytes that it may be holds of those that were read
  pub was_read_so : IsReadBy IsText causes was_read.bytes text
  was_read_so = was_read.is_so was_read.bytes (itself was_read.bytes was_read.to_end)

  pub calmly : source_failures source_now ≡ source_failures source
  calmly = reads.calm (λ e. cc)

-- this was read, and no read failed
module _ {F R W V : Type 0} (IsText : V → List ℕ → Type 0) (causes : Causes) (IsRight : List ℕ → F → Type 0) (text_of : F → List ℕ) (status_for : F → ℕ)
    (IsUnrecorded : List ℕ → Type 0) (remaining : R → Option (List ℕ)) (contents : W → Option (List ℕ)) (source source_now : Source R) (sink : Sink W)
    (text : Result V TextFault) (was : ReadsBy IsText causes (unread remaining source) (unread remaining source_now) text)
    (calmed : source_failures source_now ≡ source_failures source) where
  -- a reply was sent that is right for each input that begins so
  pub answers_sent_of : (reply : F) (sink_now : Sink W) (answer : ℕ)
      → ((whole : List ℕ) → IsInput was.bytes was.to_end whole → IsReadBy IsText causes whole text → IsRight whole reply)
      → Sends contents sink sink_now (text_of reply) (status_for reply) answer
      → Answers causes IsRight text_of status_for IsUnrecorded remaining contents source source_now sink sink_now answer
  answers_sent_of reply sink_now answer right sends = by sends.result sends.writes sends.status_is
    where
      right_for : IsRightFor IsRight was.bytes was.to_end reply
      right_for whole is_input = right whole is_input (was.is_so whole is_input)

      by : (r : Result ⊤ WriteFault) → Writes contents r sink sink_now (text_of reply)
          → MatchResult r (λ _. (answer ≡ status_for reply) × IsOfAFinding (status_for reply)) (λ _. answer ≡ status.DEVICE)
          → Answers causes IsRight text_of status_for IsUnrecorded remaining contents source source_now sink sink_now answer
      by (Ok u) wrote (same, own) = record {
        told = λ granted served recorded. record {
          bytes = was.bytes;
          to_end = was.to_end;
          read = was.read;
          reported = record { finding = reply; right = right_for; printed = wrote.ok; status_is = same };
        };
        refused = λ e. absurd (own.granted (sym same ∙ e));
        mismatch = λ e. absurd (own.recorded (sym same ∙ e));
        device = λ e. absurd (own.served (sym same ∙ e));
        calm = λ served. (calmed, wrote.calm);
      }
      by (Err fault) wrote same = record {
        told = λ granted served recorded. absurd (served same);
        refused = λ e. absurd (omega (arith, same, e));
        mismatch = λ e. absurd (omega (arith, same, e));
        device = λ e.
            inr (inr (record {
              bytes = was.bytes;
              to_end = was.to_end;
              read = was.read;
              calm = calmed;
              front = record { finding = reply; right = right_for; sent = fault.sent; cut_off = wrote.sent; failed = wrote.failed };
            }));
        calm = λ served. absurd (served same);
      }

module _ {F R W V : Type 0} (IsText : V → List ℕ → Type 0) (causes : Causes) (IsRight : List ℕ → F → Type 0) (text_of : F → List ℕ) (status_for : F → ℕ)
    (IsUnrecorded : List ℕ → Type 0) (remaining : R → Option (List ℕ)) (contents : W → Option (List ℕ)) (source source_now : Source R) (sink : Sink W)
    (given : Result (Result V TextFault) ReadFault) (reads : ReadsInput IsText causes remaining source source_now given) where
  -- the input was read
  module _ (text : Result V TextFault) (is : given ≡ Ok text) where
    read_text : ReadsBy IsText causes (unread remaining source) (unread remaining source_now) text
    read_text = was_read IsText causes remaining source source_now given reads text is

    read_calmly : source_failures source_now ≡ source_failures source
    read_calmly = calmly IsText causes remaining source source_now given reads text is

    -- a right reply was sent
    pub answers_sent : (reply : F) (sink_now : Sink W) (answer : ℕ) → ((bytes : List ℕ) → IsReadBy IsText causes bytes text → IsRight bytes reply)
        → Sends contents sink sink_now (text_of reply) (status_for reply) answer
        → Answers causes IsRight text_of status_for IsUnrecorded remaining contents source source_now sink sink_now answer
    answers_sent reply sink_now answer right sends =
        answers_sent_of IsText causes IsRight text_of status_for IsUnrecorded remaining contents source source_now sink text read_text read_calmly
        reply sink_now answer (λ whole is_input so. right whole so) sends

  -- a text was read to its end, and there is no reply
  module _ (whole : V) (is : given ≡ Ok (Ok whole)) where
    -- memory or a thread was refused
    pub answers_refused : Answers causes IsRight text_of status_for IsUnrecorded remaining contents source source_now sink sink status.REFUSED
    answers_refused = record {
      told = λ granted served recorded. absurd (granted refl);
      refused = λ e. refl;
      mismatch = λ e. absurd (omega (arith, e));
      device = λ e. absurd (omega (arith, e));
      calm = λ served. (read_calmly (Ok whole) is, refl);
    }

    -- nothing can be recorded of it
    pub answers_unrecorded : ((bytes : List ℕ) → IsText whole bytes → IsUnrecorded bytes)
        → Answers causes IsRight text_of status_for IsUnrecorded remaining contents source source_now sink sink status.MISMATCH
    answers_unrecorded holds = record {
      told = λ granted served recorded. absurd (recorded refl);
      refused = λ e. absurd (omega (arith, e));
      mismatch = λ e. (refl, by read.to_end read.all read.read (holds read.bytes (read.is_so read.bytes (itself read.bytes read.to_end))));
      device = λ e. absurd (omega (arith, e));
      calm = λ served. (read_calmly (Ok whole) is, refl);
    }
      where
        read : ReadsBy IsText causes (unread remaining source) (unread remaining source_now) (Ok whole)
        read = read_text (Ok whole) is

        by : (to_end : Bool) → IsTrue to_end → Reads causes (unread remaining source) (unread remaining source_now) read.bytes to_end
            → IsUnrecorded read.bytes → ReadsWhere IsUnrecorded (unread remaining source) (unread remaining source_now)
        by true all reads is = record { bytes = read.bytes; read = record { consumed = reads.consumed; at_end = reads.stops.0 }; holds = is }
        by false all reads is = cc

  -- it wasn't read
  answers_unread : (fault : ReadFault) → given ≡ Err fault
      → Answers causes IsRight text_of status_for IsUnrecorded remaining contents source source_now sink sink (status_of_fault fault)
  answers_unread ReadFault.Failed is = record {
    told = λ granted served recorded. absurd (served refl);
    refused = λ e. absurd (omega (arith, e));
    mismatch = λ e. absurd (omega (arith, e));
    device = λ e. inl (record { fine = reads.fine is; failed = reads.failed is; unwritten = refl });
    calm = λ served. absurd (served refl);
  }
  answers_unread ReadFault.Endless is = record {
    told = λ granted served recorded. absurd (served refl);
    refused = λ e. absurd (omega (arith, e));
    mismatch = λ e. absurd (omega (arith, e));
    device = λ e. inr (inl (record { many = reads.endless is; calm = reads.calm (λ f. cc); unwritten = refl }));
    calm = λ served. absurd (served refl);
  }
  answers_unread ReadFault.OutOfMemory is = record {
    told = λ granted served recorded. absurd (granted refl);
    refused = λ e. refl;
    mismatch = λ e. absurd (omega (arith, e));
    device = λ e. absurd (omega (arith, e));
    calm = λ served. (reads.calm (λ f. cc), refl);
  }

  pub answers_by_fault : (fault : ReadFault) → given ≡ Err fault → (answer : ℕ) → answer ≡ status_of_fault fault
      → Answers causes IsRight text_of status_for IsUnrecorded remaining contents source source_now sink sink answer
  answers_by_fault fault is answer same =
      subst (λ (n : ℕ). Answers causes IsRight text_of status_for IsUnrecorded remaining contents source source_now sink sink n) (sym same)
      (answers_unread fault is)

-- a result that is Ok of what is known
pub ok_of : {T E : Type 0} (r : Result T E) (t u : T) → r ≡ Ok t → t ≡ u → r ≡ Ok u
ok_of {T} {E} r t u is same = is ∙ ap ok same
  where
    ok : T → Result T E
    ok x = Ok x

-- what was found can be printed where it is right for some bytes
pub found_fits : {F : Type 0} (IsRight : List ℕ → Reply F → Type 0) (Holds : F → Type 0)
    → ((bytes : List ℕ) (found : F) → IsRight bytes (Reply.Found found) → Holds found)
    → (bytes : List ℕ) (reply : Reply F) → IsRight bytes reply → IfFound Holds reply
found_fits IsRight Holds fits bytes (Reply.Found found) right = fits bytes found right
found_fits IsRight Holds fits bytes (Reply.Faulty fault) right = tt
found_fits IsRight Holds fits bytes (Reply.TooLong events) right = tt
found_fits IsRight Holds fits bytes (Reply.Broken illegal) right = tt
found_fits IsRight Holds fits bytes Reply.NoRace right = tt

-- a finding that is right for what was read, with this text and this status
pub record StandsBehind {F : Type 0} (IsRight : List ℕ → F → Type 0) (text_of : F → List ℕ) (status_for : F → ℕ)
    (bytes : List ℕ) (to_end : Bool) (text : List ℕ) (own : ℕ) : Type 0 where
  pub finding : F
  pub right : IsRightFor IsRight bytes to_end finding
  pub text_is : text_of finding ≡ text
  pub status_is : status_for finding ≡ own

-- where such a finding stands behind each right reply, what is promised of replies is promised of findings
pub answers_as : {E F R W : Type 0} (causes : Causes) (IsSaid : List ℕ → E → Type 0) (said_text : E → List ℕ) (said_status : E → ℕ)
    (IsRight : List ℕ → F → Type 0) (text_of : F → List ℕ) (status_for : F → ℕ) (IsUnrecorded : List ℕ → Type 0)
    (remaining : R → Option (List ℕ)) (contents : W → Option (List ℕ)) (source source_now : Source R) (sink sink_now : Sink W) (answer : ℕ)
    → ((before after : Option (List ℕ)) (bytes : List ℕ) (to_end : Bool) (reply : E) → Reads causes before after bytes to_end
    → IsRightFor IsSaid bytes to_end reply → StandsBehind IsRight text_of status_for bytes to_end (said_text reply) (said_status reply))
    → Answers causes IsSaid said_text said_status IsUnrecorded remaining contents source source_now sink sink_now answer
    → Answers causes IsRight text_of status_for IsUnrecorded remaining contents source source_now sink sink_now answer
answers_as causes IsSaid said_text said_status IsRight text_of status_for IsUnrecorded remaining contents source source_now sink sink_now answer stands a = record {
  told = λ granted served recorded.
      let r = a.told granted served recorded in
      let f = stands _ _ r.bytes r.to_end r.reported.finding r.read r.reported.right in
      record {
        bytes = r.bytes;
        to_end = r.to_end;
        read = r.read;
        reported = record {
          finding = f.finding;
          right = f.right;
          printed = rw f.text_is r.reported.printed;
          status_is = r.reported.status_is ∙ sym f.status_is;
        };
      };
  refused = a.refused;
  mismatch = a.mismatch;
  device = λ is.
      elim (a.device is) [
        | inl failed ↦ inl failed
        | inr (inl many) ↦ inr (inl many)
        | inr (inr w) ↦
            let f = stands _ _ w.bytes w.to_end w.front.finding w.read w.front.right in
            inr (inr (record {
              bytes = w.bytes;
              to_end = w.to_end;
              read = w.read;
              calm = w.calm;
              front = record {
                finding = f.finding;
                right = f.right;
                sent = w.front.sent;
                cut_off = rw f.text_is w.front.cut_off;
                failed = w.front.failed;
              };
            }))
      ];
  calm = a.calm;
}

-- what the status says of the input, where no faulty bytes are so: it was read to its end, since else a line of it is at fault
module _ {F R W : Type 0} (causes : Causes) (IsRight : List ℕ → F → Type 0) (text_of : F → List ℕ) (status_for : F → ℕ) (IsUnrecorded : List ℕ → Type 0)
    (remaining : R → Option (List ℕ)) (contents : W → Option (List ℕ)) (source source_now : Source R) (sink sink_now : Sink W) (answer : ℕ)
    (answers : Answers causes IsRight text_of status_for IsUnrecorded remaining contents source source_now sink sink_now answer)
    (status : ℕ) (is : answer ≡ status) (own : IsOfAFinding status) where
  told : ReadsAndWrites causes IsRight text_of status_for (unread remaining source) (unread remaining source_now)
      (written contents sink) (written contents sink_now) answer
  told = answers.told (λ e. own.granted (sym is ∙ e)) (λ e. own.served (sym is ∙ e)) (λ e. own.recorded (sym is ∙ e))

  -- there are bytes and a finding of this status that is right for them
  pub right_finding : (bytes : List ℕ) × (found : F) × IsRight bytes found × (status_for found ≡ status)
  right_finding =
      (told.bytes, told.reported.finding, told.reported.right told.bytes (itself told.bytes told.to_end), sym told.reported.status_is ∙ is)

  pub reads_where : (Holds : List ℕ → Type 0) → ((bytes : List ℕ) → Holds bytes → first_fault causes bytes ≡ None)
      → ((found : F) (bytes : List ℕ) → IsRight bytes found → status_for found ≡ status → Holds bytes)
      → ReadsWhere Holds (unread remaining source) (unread remaining source_now)
  reads_where Holds fine says =
      by told.to_end told.read
      (says told.reported.finding told.bytes (told.reported.right told.bytes (itself told.bytes told.to_end)) (sym told.reported.status_is ∙ is))
    where
      by : (to_end : Bool) → Reads causes (unread remaining source) (unread remaining source_now) told.bytes to_end → Holds told.bytes
          → ReadsWhere Holds (unread remaining source) (unread remaining source_now)
      by true read holds = record { bytes = told.bytes; read = record { consumed = read.consumed; at_end = read.stops.0 }; holds = holds }
      by false read holds =
          let faulty : first_fault causes told.bytes ≡ Some read.stops.fault =
          ap (first_fault causes) (sym (append-nil told.bytes)) ∙ ended_fault_stays causes told.bytes [] read.stops.fault read.stops.faulty in
          absurd (none-some read.stops.fault (sym (fine told.bytes holds) ∙ faulty))
