use Rattle.std.proofs.Common.{◌≡◌, ◌∙◌, ap, codes}
use Rattle.std.specs.Prelude.{option_map}
use Rattle.serde_json.proofs.Views.{view-Object}
use Rattle.serde_json.specs.Data.{object, put, string}
use Rattle.serde_json.specs.View.{members_view}
use Rattle.ans_table.specs.Findings.{parts_of, sauce_of}
use Rattle.ans_table.specs.JsonRow.{Named, content_values, further_values, record_values, verdict_values}
use Rattle.ans_table.specs.JsonRow.{with_values}
use Rattle.ans_table.specs.NameText.{name_text}
use Rattle.ans_table.proofs.JsonLemmas.{row_made}
use Rattle.ans_table.proofs.json_object.row_value.Goals as goal

pub returns : goal.returns
returns c =
    let finding = c.args.finding.now in
    let told = members_view c.put_record.new.members.entries in
    let before = members_view c.put_content.new.members.entries in
    let third : told ≡ with_values (record_values (sauce_of finding)) before =
    rw c.sauce_of.ensures at c.in_ok-put_record.ensures in
    let first = members_view c.put_verdict.new.members.entries in
    let second : before ≡ with_values (content_values (parts_of finding)) first =
    rw c.parts_of.ensures at c.in_ok-put_content.ensures in
    let file : Named = (codes "file", string (name_text c.args.name.now)) in
    let further = further_values (option_map (λ t. t.now) c.args.fix) (option_map (λ t. t.now) c.args.picture) in
    let all = members_view c.put_further.new.members.entries in
    let fourth : all ≡ with_values further told = c.in_ok-put_further.ensures in
    let fifth : members_view c.put.new.map.entries ≡ put file.0 file.1 all =
    rw c.in_ok-name_value.ensures at c.in_ok-put.ensures.ok in
    view-Object c.put.new.map
    ∙ ap object
    (row_made (verdict_values finding) (content_values (parts_of finding)) (record_values (sauce_of finding)) further
    file (members_view c.new-members.result.entries) first before told all
    (members_view c.put.new.map.entries) (ap members_view c.new-members.ensures.empty)
    c.in_ok-put_verdict.ensures second third fourth fifth)
