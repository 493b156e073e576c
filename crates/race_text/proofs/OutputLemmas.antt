-- What was printed on a page of its own is written.
use Rattle.std.{proofs.Common.{◌≡◌, ℕ, List, [], Option, Result, Ok, Err, OnOk, OnErr, IfErr, ap, ◌∙◌}, specs.Bool.⊤}
use Rattle.race_records.specs.declared.sink.{Sink.Sink, WriteFault.WriteFault}
use Rattle.race_records.specs.{Devices.{written, sink_failures, one_more}, Page.{PageState, IsPrinted, IsCutOff}}
use Rattle.race_records.{specs.Page.Printing, proofs.PageLemmas.{flushed, cut_off, broken_off, OnOk-map, OnErr-map}}
use Rattle.race_records.proofs.PageLemmas.{IfErr-map}
use Rattle.race_text.specs.Output.{Writes}

module _ {W : Type 0} {contents : W → Option (List ℕ)} {before middle : Sink W} {page_now : PageState} {text : List ℕ}
    (page : PageState) (none : page.waiting ≡ []) (unsent : page.sent ≡ 0) where
  -- what waited at the end was sent, or not all of it
  pub writes_flushed : Printing contents (Ok tt) before middle page page_now text → (r : Result ⊤ WriteFault) (after : Sink W) (last : PageState)
      → OnOk r (last.waiting ≡ [])
      → OnOk r ((start : Option (List ℕ)) (t : List ℕ) → IsPrinted start (written contents middle) page_now t → IsPrinted start (written contents after) last t)
      → IfErr r (λ fault. (start : Option (List ℕ)) (t : List ℕ)
      → IsPrinted start (written contents middle) page_now t → IsCutOff start (written contents after) fault.sent t)
      → OnOk r (sink_failures after ≡ sink_failures middle) → OnErr r (sink_failures after ≡ one_more (sink_failures middle))
      → Writes contents r before after text
  writes_flushed printed r after last empty all cuts calm failed = record {
    ok = flushed (written contents before) (written contents middle) page page_now text none unsent r (written contents after) last printed.ok empty all;
    sent = IfErr-map r _ (λ (fault : WriteFault). IsCutOff (written contents before) (written contents after) fault.sent text)
        (λ (fault : WriteFault) cut. cut_off (written contents before) (written contents middle) page page_now text
        none unsent (written contents after) fault.sent printed.ok cut) cuts;
    calm = OnOk-map r _ _ (λ (same : sink_failures after ≡ sink_failures middle). same ∙ printed.calm) calm;
    failed = OnErr-map r _ _ (λ (more : sink_failures after ≡ one_more (sink_failures middle)). more ∙ ap one_more printed.calm) failed;
  }

  -- a write failed before
  pub writes_broken : {fault : WriteFault} → Printing contents (Err fault) before middle page page_now text → Writes contents (Err fault) before middle text
  writes_broken {fault} broke = record {
    ok = tt;
    sent = broken_off (written contents before) (written contents middle) page fault.sent text none unsent broke.sent;
    calm = tt;
    failed = broke.failed;
  }
