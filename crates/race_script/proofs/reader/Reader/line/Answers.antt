-- The lines that were read are few.
use Rattle.std.{proofs.Common.{◌∙◌, ap, arith}, specs.Option.option_map}
use Rattle.race_script.{specs.Reader.state_of, proofs.LineCount.{counted, total_viewed, few_viewed}}
use Rattle.race_script.proofs.reader.Reader.line.Goals as goal

pub overflow_add-before : goal.overflow_add-before
overflow_add-before g c =
    let n = counted _ c.args.self.now c.self.view_is c.if-not-self.false c.requires in
    let declared = n.declared in let len = c.len.ensures.len in
    omega (arith, declared, len)

pub count_lines-requires : goal.count_lines-requires
count_lines-requires g c =
    let n = counted _ c.args.self.now c.self.view_is c.if-not-self.false c.requires in
    let few = n.few in
    few_viewed _ c.as_slice.result.now c.self.inside.ended.items _ c.as_slice.ensures.value (omega (arith, few))

pub overflow_add-before-2 : goal.overflow_add-before-2
overflow_add-before-2 g c =
    let n = counted _ c.args.self.now c.self.view_is c.if-not-self.false c.requires in
    let total = c.count_lines.ensures ∙ total_viewed _ c.as_slice.result.now c.self.inside.ended.items c.as_slice.ensures.value in
    let few = n.few in let declared = n.declared in let len = c.len.ensures.len in
    omega (arith, few, declared, len, total)

pub overflow_add-result : goal.overflow_add-result
overflow_add-result g c =
    let n = counted _ c.args.self.now c.self.view_is c.if-not-self.false c.requires in
    let total = c.count_lines.ensures ∙ total_viewed _ c.as_slice.result.now c.self.inside.ended.items c.as_slice.ensures.value in
    let few = n.few in let declared = n.declared in let len = c.len.ensures.len in
    omega (arith, few, declared, len, total)

pub overflow_add-result-in-Some : goal.overflow_add-result-in-Some
overflow_add-result-in-Some g c =
    let n = counted _ c.args.self.now c.self.view_is c.if-not-self.false c.requires in
    let total = c.count_lines.ensures ∙ total_viewed _ c.as_slice.result.now c.self.inside.ended.items c.as_slice.ensures.value in
    let u = n.some _ (ap (option_map state_of) c.in-Some.is) in
    let few = n.few in let declared = n.declared in let len = c.len.ensures.len in
    let short = u.1 in let made = c.len-in-Some.ensures in
    omega (arith, few, declared, len, total, short, made)

pub returns-in-None : goal.returns-in-None
returns-in-None g c =
    let n = counted _ c.args.self.now c.self.view_is c.if-not-self.false c.requires in
    let total = c.count_lines.ensures ∙ total_viewed _ c.as_slice.result.now c.self.inside.ended.items c.as_slice.ensures.value in
    let all = n.none (ap (option_map state_of) c.in-None.is) in
    let len = c.len.ensures.len in
    omega (arith, len, total, all)

pub returns-in-Some : goal.returns-in-Some
returns-in-Some g c =
    let n = counted _ c.args.self.now c.self.view_is c.if-not-self.false c.requires in
    let total = c.count_lines.ensures ∙ total_viewed _ c.as_slice.result.now c.self.inside.ended.items c.as_slice.ensures.value in
    let u = n.some _ (ap (option_map state_of) c.in-Some.is) in
    let all = u.0 in let len = c.len.ensures.len in let made = c.len-in-Some.ensures in
    omega (arith, len, total, all, made)
