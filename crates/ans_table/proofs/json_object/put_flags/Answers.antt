use Rattle.std.proofs.Common.{◌≡◌, ◌∙◌, ◌∷◌, ◌++◌, [], Bool, ap, codes, rules}
use Rattle.std.specs.Prelude.{Err}
use Rattle.serde_json.specs.Data.{Data, Members, boolean, put}
use Rattle.serde_json.specs.View.{members_view, view}
use Rattle.serde_json.specs.declared.value.Value as value
use Rattle.ans_model.specs.File.Record.{is_non_blink}
use Rattle.ans_sauce.specs.RecordBytes.{sauce_bytes}
use Rattle.ans_table.specs.JsonRow.{Named, aspect_values, spacing_values, with_values}
use Rattle.ans_table.proofs.JsonLemmas.{Adds-then}
use Rattle.ans_table.proofs.json_object.put_flags.Goals as goal

-- the member of a bit
bit_member : (b c : Bool) → b ≡ c → (old new : Members) → new ≡ put (codes "ice") (view (value.Bool b)) old
    → new ≡ put (codes "ice") (boolean c) old
bit_member b c is old new made =
    let told : view (value.Bool b) ≡ boolean b = search (rules, value.the_lemmas) in
    made ∙ ap (λ (d : Data). put (codes "ice") d old) (told ∙ ap boolean is)

pub returns-in_err-put : goal.returns-in_err-put
returns-in_err-put c =
    let same : c.from_residual.result ≡ Err c.in_err-put.field-0.0 = search rules in
    rw same tt

pub returns-in_err-put_spacing : goal.returns-in_err-put_spacing
returns-in_err-put_spacing c =
    let same : c.from_residual-in_err-put_spacing.result ≡ Err c.in_err-put_spacing.field-0.0 = search rules in
    rw same tt

pub returns : goal.returns
returns c =
    let sauce = sauce_bytes c.args.sauce.now in
    let ice : Named = (codes "ice", boolean (is_non_blink sauce)) in
    let old = c.args.members.now.entries in
    let iced = c.put.new.map.entries in
    let spaced = c.put_spacing.new.members.entries in
    let all = c.put_aspect.new.members.entries in
    let result = c.put_aspect.result in
    let first : members_view iced ≡ with_values (ice ∷ []) (members_view old) =
    bit_member c.is_non_blink.result (is_non_blink sauce) c.is_non_blink.ensures (members_view old) (members_view iced)
    c.in_ok-put.ensures.ok in
    Adds-then old iced all result (ice ∷ []) (spacing_values sauce ++ aspect_values sauce) first
    (Adds-then iced spaced all result (spacing_values sauce) (aspect_values sauce) c.in_ok-put_spacing.ensures
    c.put_aspect.ensures)
