-- The object of a row has no float, and nests lists in an object and nothing more.
use Rattle.std.proofs.Common.{◌≡◌, ◌∙◌, ◌==◌, ◌≤◌, ◌<◌, ℕ, suc, ◌+◌, ◌-◌, Bool, true, false, ◌||◌, List, []}
use Rattle.std.proofs.Common.{◌∷◌, ◌++◌, map, arith, refl, sym, ap, append_assoc, append-nil, Result, Ok, Err, Ordering}
use Rattle.std.proofs.Common.{Less, Equal, Greater, nat_cmp, Option, Some, None, codes}
use Rattle.std.specs.Prelude.{⊤, if◌then◌else◌}
use Rattle.std.proofs.lemmas.List.{map-append}
use Rattle.std.specs.Ordering.{match_ordering}
use Rattle.std.specs.Cmp.Lexicographic.{slice_cmp}
use Rattle.serde_json.specs.Data.{Data, Members, no_members, member, string, put, depth, items_depth}
use Rattle.serde_json.specs.Data.{members_depth}
use Rattle.serde_json.specs.Read.{max_depth}
use Rattle.serde_json.specs.View.{items_of, members_view, view}
use Rattle.serde_json.specs.declared.value.Value.{Value}
use Rattle.serde_json.specs.Written.{has_float, items_have_float, members_have_float}
use Rattle.ans_model.specs.declared.fault.Fault.{Fault}
use Rattle.ans_model.specs.File.Record.{aspect_ratio, comment, letter_spacing}
use Rattle.ans_model.specs.Text.Characters.{shown_bytes}
use Rattle.ans_sauce.specs.declared.parts.Parts.{Parts}
use Rattle.ans_sauce.specs.declared.judged.Judged.TheVariants.{NoContent, Refused, Passes}
use Rattle.ans_model.specs.Text.Words.{part_names}
use Rattle.ans_kinds.specs.KindsUsed.{words_used}
use Rattle.ans_kinds.specs.declared.players.Players.{Players}
use Rattle.ans_kinds.specs.declared.players.Players.TheVariants.{Any, InNamedColours, Agreeing}
use Rattle.ans_players.specs.Kinds.{kind_word}
use Rattle.ans_players.specs.declared.difference.Difference.TheVariants.{OwnColours}
use Rattle.ans_table.specs.Findings.{Finding, RowFinding, parts_of, sauce_of}
use Rattle.ans_table.specs.NameText.{name_text}
use Rattle.ans_table.specs.Columns.{by_pair}
use Rattle.ans_table.specs.JsonRow.{Adds, Entries, Named, aspect_values, comments_from, content_values, count}
use Rattle.ans_table.specs.JsonRow.{fault_values, field_values, flag_values, found_values, further_values, parts_values}
use Rattle.ans_table.specs.JsonRow.{players_values, record_values, row_data, row_values, shown_values, spacing_values}
use Rattle.ans_table.specs.JsonRow.{taller_values}
use Rattle.ans_table.specs.JsonRow.{text_list, verdict_values, with_values}

-- no float, and at most lists
record IsFlat (d : Data) : Type 0 where
  float : has_float d ≡ false
  nests : depth d ≤ 1

-- the same of all members
record AreFlat (ms : Members) : Type 0 where
  float : members_have_float ms ≡ false
  nests : members_depth ms ≤ 1

first_false : (a b : Bool) → (a || b) ≡ false → a ≡ false
first_false false b e = refl
first_false true b e = e

second_false : (a b : Bool) → (a || b) ≡ false → b ≡ false
second_false false b e = e
second_false true b e = cc

both_false : (a b : Bool) → a ≡ false → b ≡ false → (a || b) ≡ false
both_false a b e f = rw (e, f) refl

flat_member : (k : List ℕ) (d : Data) (ms : Members) → IsFlat d → AreFlat ms → AreFlat (member k d ms)
flat_member k d ms h g = record {
  float = both_false (has_float d) (members_have_float ms) h.float g.float;
  nests = omega (arith, h.nests, g.nests);
}

flat_first : (k : List ℕ) (d : Data) (ms : Members) → AreFlat (member k d ms) → IsFlat d
flat_first k d ms h = record {
  float = first_false (has_float d) (members_have_float ms) h.float;
  nests = omega (arith, h.nests);
}

flat_later : (k : List ℕ) (d : Data) (ms : Members) → AreFlat (member k d ms) → AreFlat ms
flat_later k d ms h = record {
  float = second_false (has_float d) (members_have_float ms) h.float;
  nests = omega (arith, h.nests);
}

flat_choice : (o : Ordering) (a b c : Members) → AreFlat a → AreFlat b → AreFlat c → AreFlat (match_ordering o a b c)
flat_choice Less a b c f g h = f
flat_choice Equal a b c f g h = g
flat_choice Greater a b c f g h = h

flat_put : (k : List ℕ) (d : Data) (ms : Members) → IsFlat d → AreFlat ms → AreFlat (put k d ms)
flat_put k d no_members h g = flat_member k d no_members h g
flat_put k d (member l e ms) h g =
    let first = flat_first l e ms g in
    let later = flat_later l e ms g in
    flat_choice (slice_cmp nat_cmp k l) (member k d (member l e ms)) (member l d ms) (member l e (put k d ms))
    (flat_member k d (member l e ms) h g) (flat_member l d ms h later)
    (flat_member l e (put k d ms) first (flat_put k d ms h later))

-- flat values
abbrev AllFlat : List Named → Type 0
AllFlat [] = ⊤
AllFlat (v ∷ vs) = IsFlat v.1 × AllFlat vs

flat_append : (vs ws : List Named) → AllFlat vs → AllFlat ws → AllFlat (vs ++ ws)
flat_append [] ws h g = g
flat_append (v ∷ vs) ws h g = (h.0, flat_append vs ws h.1 g)

flat_with : (vs : List Named) (ms : Members) → AllFlat vs → AreFlat ms → AreFlat (with_values vs ms)
flat_with [] ms h g = g
flat_with (v ∷ vs) ms h g = flat_with vs (put v.0 v.1 ms) h.1 (flat_put v.0 v.1 ms h.0 g)

-- a value that nests nothing
simple : (d : Data) → has_float d ≡ false → depth d ≤ 0 → IsFlat d
simple d e h = record { float = e; nests = omega (arith, h) }

items_float : (ts : List (List ℕ)) → items_have_float (items_of (map string ts)) ≡ false
items_float [] = refl
items_float (t ∷ ts) = items_float ts

items_nest : (ts : List (List ℕ)) → items_depth (items_of (map string ts)) ≤ 0
items_nest [] = omega arith
items_nest (t ∷ ts) = omega (arith, items_nest ts)

flat_texts : (ts : List (List ℕ)) → IsFlat (text_list ts)
flat_texts ts = record { float = items_float ts; nests = omega (arith, items_nest ts) }

flat_fault : (fault : Fault) → AllFlat (fault_values fault)
flat_fault fault = (simple _ refl (omega arith), (simple _ refl (omega arith), (simple _ refl (omega arith), tt)))

flat_players : (players : Players) → AllFlat (players_values players)
flat_players (Any class) = (flat_texts [], (flat_texts (part_names class), tt))
flat_players (InNamedColours class times) =
    (flat_texts (kind_word OwnColours ∷ []), (flat_texts (part_names class), tt))
flat_players (Agreeing used) = (flat_texts (words_used used), tt)

flat_taller : (same : Bool) → AllFlat (taller_values same)
flat_taller true = (simple _ refl (omega arith), tt)
flat_taller false = tt

flat_found : (finding : Finding) → AllFlat (found_values finding)
flat_found (NoContent said) = flat_fault said.fault
flat_found (Refused parts said) =
    flat_append (fault_values said.fault) ((codes "row", count said.row) ∷ (codes "column", count said.column) ∷ [])
    (flat_fault said.fault)
    (simple (count said.row) refl (omega arith), (simple (count said.column) refl (omega arith), tt))
flat_found (Passes parts said) = (
  simple _ refl (omega arith),
  (
    flat_texts _,
    flat_append (players_values said.players) (taller_values said.taller) (flat_players said.players)
        (flat_taller said.taller),
  ),
)

flat_verdict : (finding : RowFinding) → AllFlat (verdict_values finding)
flat_verdict (Ok finding) = flat_found finding
flat_verdict (Err reason) = (simple _ refl (omega arith), (simple _ refl (omega arith), tt))

flat_parts : (parts : Parts) → AllFlat (parts_values parts)
flat_parts parts = (simple _ refl (omega arith), (flat_texts _, (flat_texts _, tt)))

flat_content : (parts : Option Parts) → AllFlat (content_values parts)
flat_content (Some parts) = flat_parts parts
flat_content None = tt

flat_if : (b : Bool) (vs ws : List Named) → AllFlat vs → AllFlat ws → AllFlat (if b then vs else ws)
flat_if true vs ws h g = h
flat_if false vs ws h g = g

flat_pair : (pair : ℕ) (one two : List Named) → AllFlat one → AllFlat two → AllFlat (by_pair pair one two)
flat_pair pair one two h g =
    flat_if (pair == 1) one (if pair == 2 then two else []) h (flat_if (pair == 2) two [] g tt)

flat_spacing : (sauce : List ℕ) → AllFlat (spacing_values sauce)
flat_spacing sauce =
    flat_pair (letter_spacing sauce) ((codes "spacing", count 8) ∷ []) ((codes "spacing", count 9) ∷ [])
    (simple (count 8) refl (omega arith), tt) (simple (count 9) refl (omega arith), tt)

flat_aspect : (sauce : List ℕ) → AllFlat (aspect_values sauce)
flat_aspect sauce =
    flat_pair (aspect_ratio sauce) ((codes "aspect", string (codes "stretch")) ∷ [])
    ((codes "aspect", string (codes "square")) ∷ [])
    (simple (string (codes "stretch")) refl (omega arith), tt)
    (simple (string (codes "square")) refl (omega arith), tt)

flat_flags : (sauce : List ℕ) → AllFlat (flag_values sauce)
flat_flags sauce = (
  simple _ refl (omega arith),
  flat_append (spacing_values sauce) (aspect_values sauce) (flat_spacing sauce) (flat_aspect sauce),
)

flat_fields : (sauce : List ℕ) → AllFlat (field_values sauce)
flat_fields sauce = (
  simple _ refl (omega arith),
  (
    simple _ refl (omega arith),
    (
      simple _ refl (omega arith),
      (simple _ refl (omega arith), (simple _ refl (omega arith), tt)),
    ),
  ),
)

flat_record : (sauce : Option (List ℕ)) → AllFlat (record_values sauce)
flat_record (Some sauce) = (
  simple _ refl (omega arith),
  (
    simple _ refl (omega arith),
    flat_append (flag_values sauce) (field_values sauce) (flat_flags sauce) (flat_fields sauce),
  ),
)
flat_record None = tt

flat_shown : (name : List ℕ) (text : Option (List ℕ)) → AllFlat (shown_values name text)
flat_shown name (Some text) = (simple _ refl (omega arith), tt)
flat_shown name None = tt

flat_further : (fix picture : Option (List ℕ)) → AllFlat (further_values fix picture)
flat_further fix picture =
    flat_append (shown_values (codes "fix") fix) (shown_values (codes "picture") picture)
    (flat_shown (codes "fix") fix) (flat_shown (codes "picture") picture)

flat_row : (name : List ℕ) (finding : RowFinding) (fix picture : Option (List ℕ))
    → AllFlat (row_values name finding fix picture)
flat_row name finding fix picture =
    let file : List Named = (codes "file", string (name_text name)) ∷ [] in
    let further = further_values fix picture in
    flat_append (verdict_values finding)
    (content_values (parts_of finding) ++ (record_values (sauce_of finding) ++ (further ++ file)))
    (flat_verdict finding)
    (flat_append (content_values (parts_of finding)) (record_values (sauce_of finding) ++ (further ++ file))
    (flat_content (parts_of finding))
    (flat_append (record_values (sauce_of finding)) (further ++ file) (flat_record (sauce_of finding))
    (flat_append further file (flat_further fix picture) (simple (string (name_text name)) refl (omega arith), tt))))

flat_members : (name : List ℕ) (finding : RowFinding) (fix picture : Option (List ℕ))
    → AreFlat (with_values (row_values name finding fix picture) no_members)
flat_members name finding fix picture =
    flat_with (row_values name finding fix picture) no_members (flat_row name finding fix picture)
    (record { float = refl; nests = omega arith })

pub row_float : (name : List ℕ) (finding : RowFinding) (fix picture : Option (List ℕ))
    → has_float (row_data name finding fix picture) ≡ false
row_float name finding fix picture = (flat_members name finding fix picture).float

pub row_nests : (name : List ℕ) (finding : RowFinding) (fix picture : Option (List ℕ))
    → depth (row_data name finding fix picture) ≤ max_depth
row_nests name finding fix picture = omega (arith, (flat_members name finding fix picture).nests)

-- values after values
pub with_append : (vs ws : List Named) (ms : Members) → with_values (vs ++ ws) ms ≡ with_values ws (with_values vs ms)
with_append [] ws ms = refl
with_append (v ∷ vs) ws ms = with_append vs ws (put v.0 v.1 ms)

pub Adds-then : {T E : Type 0} (a b c : Entries) (r : Result T E) (vs ws : List Named)
    → members_view b ≡ with_values vs (members_view a) → Adds b c r ws → Adds a c r (vs ++ ws)
Adds-then a b c (Ok x) vs ws e h = h ∙ ap (with_values ws) e ∙ sym (with_append vs ws (members_view a))
Adds-then a b c (Err x) vs ws e h = tt

pub Adds-same : {T E : Type 0} (a b : Entries) (r : Result T E) {vs ws : List Named} → vs ≡ ws → Adds a b r vs
    → Adds a b r ws
Adds-same a b r e h = rw e at h

-- the members of a row, group after group
pub row_made : (vs ks rs xs : List Named) (n : Named) (a b c d e f : Members) → a ≡ no_members → b ≡ with_values vs a
    → c ≡ with_values ks b → d ≡ with_values rs c → e ≡ with_values xs d → f ≡ put n.0 n.1 e
    → f ≡ with_values (vs ++ (ks ++ (rs ++ (xs ++ n ∷ [])))) no_members
row_made vs ks rs xs n a b c d e f none first second third fourth fifth =
    fifth
    ∙ ap (put n.0 n.1)
    (fourth ∙ ap (with_values xs)
    (third ∙ ap (with_values rs) (second ∙ ap (with_values ks) (first ∙ ap (with_values vs) none))))
    ∙ sym
    (with_append vs (ks ++ (rs ++ (xs ++ n ∷ []))) no_members
    ∙ with_append ks (rs ++ (xs ++ n ∷ [])) (with_values vs no_members)
    ∙ with_append rs (xs ++ n ∷ []) (with_values ks (with_values vs no_members))
    ∙ with_append xs (n ∷ []) (with_values rs (with_values ks (with_values vs no_members))))

-- one comment more
pub comment_next : (done : List Data) (i n : ℕ) (bytes : List ℕ) (d : Data) (all : List Data) → i < n
    → d ≡ string (shown_bytes (comment bytes i)) → done ++ map string (comments_from i (n - i) bytes) ≡ all
    → (done ++ d ∷ []) ++ map string (comments_from (i + 1) (n - (i + 1)) bytes) ≡ all
comment_next done i n bytes d all lt is sofar =
    let one_less : n - i ≡ suc (n - (i + 1)) = omega (arith, lt) in
    append_assoc done (d ∷ []) (map string (comments_from (i + 1) (n - (i + 1)) bytes))
    ∙ ap (λ (e : Data). done ++ e ∷ map string (comments_from (i + 1) (n - (i + 1)) bytes)) is
    ∙ ap (λ (k : ℕ). done ++ map string (comments_from i k bytes)) (sym one_less)
    ∙ sofar

-- no comment is left
pub comments_done : (done : List Data) (i n : ℕ) (bytes : List ℕ) (all : List Data) → n ≤ i
    → done ++ map string (comments_from i (n - i) bytes) ≡ all → done ≡ all
comments_done done i n bytes all le sofar =
    let none : n - i ≡ 0 = omega (arith, le) in
    sym (append-nil done) ∙ ap (λ (k : ℕ). done ++ map string (comments_from i k bytes)) (sym none) ∙ sofar

-- the data of a list that has grown by one value
pub views_next : (old new : List Value) (v : Value) (rest all : List Data) → new ≡ old ++ v ∷ []
    → (map view old ++ view v ∷ []) ++ rest ≡ all → map view new ++ rest ≡ all
views_next old new v rest all grown is =
    ap (λ (vs : List Value). map view vs ++ rest) grown
    ∙ ap (λ (ds : List Data). ds ++ rest) (map-append view old (v ∷ [])) ∙ is
