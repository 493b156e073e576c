use Rattle.std.proofs.Common.{◌≡◌, ℕ, ◌+◌, ◌<◌, min, List, length, take, sym, ap, subst, ◌∙◌}
use Rattle.std.specs.Io.KnownBytes.{Appends}
use Rattle.race_records.{specs.Page.{PageState, IsPrinted}, proofs.PageLemmas.{all_out, part_out}}
use Rattle.race_records.proofs.page.Page.flush.Goals as goal

pub returns-in-Ok-clause-ok : goal.returns-in-Ok-clause-ok
returns-in-Ok-clause-ok g c = λ start text printed.
    let before = g.W.Write.contents c.args.sink.now.writer in
    let after = g.W.Write.contents c.send.new.self.writer in
    let page = c.args.self.now in
    let waited : c.as_slice.result.now ≡ page.waiting = c.as_slice.ensures.value ∙ ap (λ (p : PageState). p.waiting) c.self.view_is in
    let went = subst (λ (l : List ℕ). Appends before after l) waited c.in-Ok.ensures.ok in
    let len : c.len.result ≡ length page.waiting = c.len.ensures.value ∙ ap (λ (p : PageState). length p.waiting) c.self.view_is in
    let is : c.saturating_add-self-inside.result ≡ min (page.sent + length page.waiting) 18446744073709551615 =
    c.saturating_add-self-inside.ensures ∙ (λ i. min ((c.self.view_is i).sent + len i) 18446744073709551615) in
    subst (λ (w : List ℕ). IsPrinted start after (record { waiting = w; sent = c.saturating_add-self-inside.result }) text) (sym c.clear.ensures)
    (all_out start before after page text printed c.saturating_add-self-inside.result went is)

pub returns-in-Err-clause-sent : goal.returns-in-Err-clause-sent
returns-in-Err-clause-sent g c = λ start text printed.
    let before = g.W.Write.contents c.args.sink.now.writer in
    let after = g.W.Write.contents c.send.new.self.writer in
    let page = c.args.self.now in
    let waited : c.as_slice.result.now ≡ page.waiting = c.as_slice.ensures.value ∙ ap (λ (p : PageState). p.waiting) c.self.view_is in
    let n = c.in-Err.fault.sent in
    let went = subst (λ (l : List ℕ). Appends before after (take n l)) waited c.in-Err.ensures.sent in
    let short = subst (λ (l : List ℕ). n < length l) waited c.in-Err.ensures.short in
    part_out start before after page text printed n c.fault.result.sent short went c.fault.ensures
