-- The table of names refuses it for the cause of the line.
use Rattle.std.proofs.Common.{◌≡◌, ◌∙◌, ◌∷◌, [], Option, Some, None, Err, option_map, sym, ap, rules}
use Rattle.race_records.specs.{Declarations.{decl_fault, with_declaration}, DeclKeywords.object_by}
use Rattle.race_text.specs.{declared.cause.TextCause.TextCause, Declaring.{cause_of, decl_keyword_cause, with_declared}, Fault.declaration}
use Rattle.race_text.proofs.{LoneNames.{lone_allowed, lone_cause, lone_object, lone_ok, lone_refused}, WordLemmas.name_is_visible}
use Rattle.race_text.proofs.declaration.declare_named.Goals.{After-declare}
use Rattle.race_text.proofs.declaration.declare_named.Goals as goal

pub unwrap-object-requires : goal.unwrap-object-requires
unwrap-object-requires g c = let made = (lone_object c.args.keyword c.requires.alone).1 in search (rules, made)

pub as_text-requires : goal.as_text-requires
as_text-requires g c = name_is_visible c.args.name.now c.requires.is_name

module _ (g : _) (c : After-declare g) where
  made : object_by c.args.keyword None ≡ Some c.unwrap-object.result
  made = sym c.object_by.ensures ∙ c.unwrap-object.ensures

  same : decl_keyword_cause c.args.decls.now.declarations c.args.keyword (c.args.name.now ∷ [])
      ≡ option_map cause_of (decl_fault c.args.decls.now.declarations c.unwrap-object.result c.as_text.result.now)
  same =
      ap (λ w. decl_keyword_cause c.args.decls.now.declarations c.args.keyword (w ∷ [])) (sym c.as_text.ensures)
      ∙ lone_cause c.args.decls.now.declarations c.args.keyword c.as_text.result.now c.unwrap-object.result c.requires.alone made

pub returns-in-Ok-clause-refused : goal.returns-in-Ok-clause-refused
returns-in-Ok-clause-refused g c =
    let at = (goal.at.returns-in-Ok-clause-refused g c).After-declare in
    lone_ok _ _ c.declare.result (same g at) _ c.in-Ok.is c.declare.ensures.refused _

pub returns-in-Err-clause-refused : goal.returns-in-Err-clause-refused
returns-in-Err-clause-refused g c = λ f told.
    let at = (goal.at.returns-in-Err-clause-refused g c).After-declare in
    ap Err (c.cause_of.ensures ∙ lone_refused _ _ c.declare.result (same g at) c.in-Err.refused c.in-Err.is c.declare.ensures.refused f told)

pub returns-in-Err-clause-allowed : goal.returns-in-Err-clause-allowed
returns-in-Err-clause-allowed g c = λ none.
    let at = (goal.at.returns-in-Err-clause-allowed g c).After-declare in
    c.cause_of.ensures ∙ lone_allowed _ _ c.declare.result (same g at) c.in-Err.refused c.in-Err.is c.declare.ensures.allowed none

pub returns-in-Ok-clause-added : goal.returns-in-Ok-clause-added
returns-in-Ok-clause-added g c =
    let at = (goal.at.returns-in-Ok-clause-added g c).After-declare in
    c.in-Ok.ensures.added ∙ ap (λ w. with_declaration c.args.decls.now w c.unwrap-object.result) c.as_text.ensures
    ∙ ap (λ o. with_declared c.args.decls.now (option_map (declaration c.args.name.now) o)) (sym (made g at))
