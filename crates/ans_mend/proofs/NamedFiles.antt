-- The colours of a file's content that are named.
use Rattle.std.proofs.Common.{◌≡◌, inl, inr, ℕ, ◌+◌, ◌-◌, ◌<◌, ◌≤◌, Bool, true, List, ◌++◌, length, take, drop}
use Rattle.std.proofs.Common.{refl, sym, ap}
use Rattle.std.proofs.Common.{◌∙◌, subst, arith, Option, None}
use Rattle.std.specs.Prelude.{MatchBool}
use Rattle.std.proofs.lemmas.List.{length-append, length-drop, length-take-le}
use Rattle.ans_model.specs.File.Refusals.{has_record}
use Rattle.ans_model.specs.Sequence.TokenKind.{TokenKind}
use Rattle.ans_model.specs.Sequence.Reads.{Reads, ReadsAs}
use Rattle.ans_players.specs.Situations.{Spelled, spelled}
use Rattle.ans_pens.specs.declared.times.Times.{Times}
use Rattle.ans_sauce.specs.Contents.{content_in, with_content}
use Rattle.ans_mend.specs.NamedColours.{AreColoursNamed, HasNamedColours, IsTooLongNamed, named_content}
use Rattle.ans_mend.specs.NamedColours.{names_room}
use Rattle.ans_model.specs.Bytes.{longest_file}
use Rattle.ans_mend.proofs.NamedBound.{longer_by_names as named_bound}
use Rattle.ans_mend.specs.NameSearch.{Grows, HaveNamedLength}
use Rattle.ans_mend.specs.declared.name_colours.Growth.{Growth}
use Rattle.ans_mend.proofs.ContentFront.{content_bytes, content_few, same_content}
use Rattle.ans_mend.proofs.NamedWriting.{same_texts}

of_recorded : (file new left : List ℕ) (times : Option Times) → has_record file ≡ true
    → AreColoursNamed (content_in file) left times → new ≡ with_content left file → HasNamedColours file new times
of_recorded file new left times has named new_is =
    subst (λ (b : Bool). MatchBool b ((left : List ℕ) × AreColoursNamed (content_in file) left times
    × (new ≡ with_content left file)) ((new ≡ file) × (times ≡ None))) (sym has) (left, named, new_is)

-- a content that cannot be read stays
pub unread_stays : (file content : List ℕ) → has_record file ≡ true → content ≡ content_in file
    → ((tokens : List TokenKind) → ¬ Reads content tokens) → HasNamedColours file file None
unread_stays file content has is none =
    of_recorded file file (content_in file) None has
    (inr (subst (λ (v : List ℕ). (tokens : List TokenKind) → ¬ Reads v tokens) is none, refl, refl))
    (sym (same_content file))

-- in a memory of which the first bytes are the file
module _ (memory file content : List ℕ) (used : ℕ) (is : content ≡ content_in file) (within : used ≤ length memory)
    (are : file ≡ take used memory) (growth : Growth) (g : Grows content growth) where
  content_there : take (length content) memory ≡ content
  content_there =
      ap (λ (v : List ℕ). take (length v) memory) is ∙ content_bytes memory used file within are ∙ sym is

  pub room_for : HaveNamedLength (take (length content) memory) (growth.bytes + length content)
  room_for =
      let long = g.long in
      record {
        tokens = g.tokens;
        texts = g.texts;
        reads = subst (λ (v : List ℕ). ReadsAs v g.tokens g.texts) (sym content_there) g.reads;
        long = omega (arith, long);
      }

  pub file_named : has_record file ≡ true → (new : List ℕ) → ((tokens : List TokenKind) (texts : List (List ℕ))
      → ReadsAs (take (length content) memory) tokens texts
      → new ≡ named_content (spelled tokens texts) ++ drop (length content) (take used memory))
      → HasNamedColours file new growth.times
  file_named has new named =
      let left : List ℕ = named_content (spelled g.tokens g.texts) in
      let reads : ReadsAs (content_in file) g.tokens g.texts =
      subst (λ (v : List ℕ). ReadsAs v g.tokens g.texts) is g.reads in
      of_recorded file new left growth.times has
      (inl (record { tokens = g.tokens; reads = (g.texts, reads); left_is = refl; times_are = g.times }))
      (named g.tokens g.texts (subst (λ (v : List ℕ). ReadsAs v g.tokens g.texts) (sym content_there) g.reads)
      ∙ ap (λ (v : List ℕ). left ++ drop (length content) v) (sym are)
      ∙ ap (λ (v : List ℕ). left ++ drop (length v) file) is)

  -- with its names the file is longer by as much
  named_long : has_record file ≡ true
      → (new : List ℕ) × HasNamedColours file new growth.times × (length new ≡ length file + growth.bytes)
  named_long has =
      let left : List ℕ = named_content (spelled g.tokens g.texts) in
      let new : List ℕ = left ++ drop (length content) (take used memory) in
      let same : (tokens : List TokenKind) (texts : List (List ℕ)) → ReadsAs (take (length content) memory) tokens texts
      → new ≡ named_content (spelled tokens texts) ++ drop (length content) (take used memory) =
      λ tokens texts reads. ap (λ (v : List Spelled). named_content v ++ drop (length content) (take used memory))
      (same_texts content tokens g.tokens texts g.texts
      (subst (λ (v : List ℕ). ReadsAs v tokens texts) content_there reads) g.reads) in
      let few = content_few memory used file within are in
      let long = g.long in
      let file_long : length file ≡ used = ap length are ∙ length-take-le used memory within in
      let rest : length (drop (length content) (take used memory)) ≡ used - length content =
      length-drop (length content) (take used memory)
      ∙ ap (λ (v : ℕ). v - length content) (length-take-le used memory within) in
      let sum = length-append left (drop (length content) (take used memory)) in
      (new, file_named has new same, omega (arith, few, long, file_long, rest, sum, ap length is))

  pub named_too_long : has_record file ≡ true → (most : ℕ) → most < length file + growth.bytes
      → IsTooLongNamed file most
  named_too_long has most more =
      let (new, named, long) = named_long has in (new, growth.times, named, omega (arith, long, more))

  -- where the file is not too long then, there is room for them
  pub names_within : has_record file ≡ true → names_room file ≤ length memory - used
      → growth.bytes ≤ longest_file - used → used + growth.bytes ≤ length memory
  names_within has room few =
      let (new, named, long) = named_long has in
      let bound = named_bound file new growth.times named in
      let file_long : length file ≡ used = ap length are ∙ length-take-le used memory within in
      omega (arith, room, few, long, bound, file_long, within)
