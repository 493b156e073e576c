-- The lines that were read are the header, the declarations and the events, and there are few.
use Rattle.std.proofs.Common.{◌≡◌, true, length, ap, ◌∙◌, arith}
use Rattle.race_records.specs.Declarations.{DeclsState}
use Rattle.race_text.proofs.LineCount.{few_declared, line_of_events, line_of_declarations}
use Rattle.race_text.proofs.reader.Reader.line.Goals as goal

pub overflow_add-result : goal.overflow_add-result
overflow_add-result g c =
    omega (arith, few_declared c.decls.result.now c.len.ensures.well_formed, c.len.ensures.len, c.len-in-Some.ensures.len, c.len-in-Some.ensures.is_trace.limited)

pub overflow_add-result-in-Some : goal.overflow_add-result-in-Some
overflow_add-result-in-Some g c =
    omega (arith, few_declared c.decls.result.now c.len.ensures.well_formed, c.len.ensures.len, c.len-in-Some.ensures.len, c.len-in-Some.ensures.is_trace.limited)

pub overflow_add-result-in-None : goal.overflow_add-result-in-None
overflow_add-result-in-None g c =
    omega (arith, few_declared c.args.self.now.decls c.len-in-None.ensures.well_formed, c.len-in-None.ensures.len)

pub returns-in-Some : goal.returns-in-Some
returns-in-Some g c =
    let read : c.args.self.now.has_header ≡ true = let h = c.if-not-self.false in cc in
    let lines = line_of_events c.args.self.now.has_header c.args.self.now.decls c.args.self.now.trace c.in-Some.trace read c.in-Some.is in
    let decls = c.len.ensures.len ∙ ap (λ (d : DeclsState). length d.declarations) c.decls.ensures.decls in
    omega (arith, lines, decls, c.len-in-Some.ensures.len)

pub returns-in-None : goal.returns-in-None
returns-in-None g c =
    let read : c.args.self.now.has_header ≡ true = let h = c.if-not-self.false in cc in
    let lines = line_of_declarations c.args.self.now.has_header c.args.self.now.decls c.args.self.now.trace read c.in-None.is in
    omega (arith, lines, c.len-in-None.ensures.len)
