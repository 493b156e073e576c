use Rattle.std.proofs.Common.{arith, ◌≡◌, ℕ, ◌+◌, min, List, [], ◌++◌, length, sym, ap, subst, ◌∙◌}
use Rattle.race_records.{specs.Page.{PageState, IsPrinted}, proofs.PageLemmas.{all_sent, part_sent}}
use Rattle.race_records.proofs.page.Page.send.Goals as goal

pub returns-in-Ok : goal.returns-in-Ok
returns-in-Ok g c =
    let before = g.W.Write.contents c.args.sink.now.writer in
    let after = g.W.Write.contents c.send.new.self.writer in
    let bytes = c.args.bytes.now in
    let page = c.args.self.now in
    let sent = c.saturating_add-self-inside.result in
    let none : c.self.inside.waiting.items ≡ [] = ap (λ (p : PageState). p.waiting) c.self.view_is ∙ c.requires.empty in
    let is : sent ≡ min (page.sent + length bytes) 18446744073709551615 =
    c.saturating_add-self-inside.ensures ∙ (λ i. min ((c.self.view_is i).sent + length bytes) 18446744073709551615) in
    record {
      ok = λ start text printed. subst (λ (w : List ℕ). IsPrinted start after (record { waiting = w; sent = sent }) (text ++ bytes)) (sym none)
          (all_sent start before after page text printed bytes sent c.requires.empty c.in-Ok.ensures.ok is);
      sent = tt;
      calm = c.in-Ok.ensures.calm;
      failed = tt;
      waits = λ room. absurd (omega (arith, room, c.requires.long));
    }

pub returns-in-Err : goal.returns-in-Err
returns-in-Err g c =
    let before = g.W.Write.contents c.args.sink.now.writer in
    let after = g.W.Write.contents c.send.new.self.writer in
    record {
      ok = tt;
      sent = λ start text printed. part_sent start before after c.args.self.now text printed c.args.bytes.now
          c.in-Err.fault.sent c.fault.result.sent c.requires.empty c.in-Err.ensures.short c.in-Err.ensures.sent c.fault.ensures;
      calm = tt;
      failed = c.in-Err.ensures.failed;
      waits = λ room. absurd (omega (arith, room, c.requires.long));
    }
