use Rattle.std.proofs.Common.{◌≡◌, ◌∙◌, ◌++◌, ◌+◌, ◌<◌, ◌≤◌, ap, sym, refl, rules, List, ℕ, length, drop, get_or}
use Rattle.std.proofs.Common.{add-one, append_assoc, append-nil, drop-cons, string_bytes}
use Rattle.std.proofs.lemmas.List.{drop_all}
use Rattle.std.specs.Prelude.{Err, encode_utf8}
use Rattle.serde_json.specs.Data.{string}
use Rattle.serde_json.specs.View.{view}
use Rattle.serde_json.specs.declared.value.Value as value
use Rattle.ans_model.specs.Text.Characters.{glyph_text, shown_bytes}
use Rattle.ans_table.proofs.json_object.shown_value.Goals as goal

-- one byte more is shown
shown_next : (done next all bytes : List ℕ) (i : ℕ) → i < length bytes
    → next ≡ done ++ encode_utf8 (glyph_text (get_or bytes i 0)) → done ++ shown_bytes (drop i bytes) ≡ all
    → next ++ shown_bytes (drop (i + 1) bytes) ≡ all
shown_next done next all bytes i lt grown sofar =
    let step : shown_bytes (drop i bytes)
    ≡ encode_utf8 (glyph_text (get_or bytes i 0)) ++ shown_bytes (drop (i + 1) bytes) =
    rw (add-one, drop-cons bytes i 0 lt) refl in
    rw (grown, append_assoc, ← step) sofar

-- all bytes are shown
shown_all : (done bytes : List ℕ) (i : ℕ) → length bytes ≤ i
    → done ++ shown_bytes (drop i bytes) ≡ shown_bytes bytes → done ≡ shown_bytes bytes
shown_all done bytes i le sofar =
    let none : done ++ shown_bytes (drop i bytes) ≡ done = rw (drop_all i bytes le) (append-nil done) in
    sym none ∙ sofar

pub returns-in_err-push : goal.returns-in_err-push
returns-in_err-push c =
    let same : c.from_residual.result ≡ Err c.in_err-push.field-0.0 = search rules in
    rw same tt

pub loop-byte-preserved : goal.loop-byte-preserved
loop-byte-preserved c =
    shown_next (string_bytes c.loop-byte.text) (string_bytes c.push.new.self) _ c.args.bytes.now c.loop-byte.byte-index
    c.loop-byte-test.true (rw c.glyph_text.ensures at c.in_ok-push.ensures.bytes) c.loop-byte.invariant

pub returns : goal.returns
returns c =
    let text = c.loop-byte.text in
    let told : view (value.String text) ≡ string (string_bytes text) = search (rules, value.the_lemmas) in
    told
    ∙ ap string
    (shown_all (string_bytes text) c.args.bytes.now c.loop-byte.byte-index c.loop-byte-test.false c.loop-byte.invariant)
