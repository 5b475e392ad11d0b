-- What naming adds, counted from sequence to sequence.
use Rattle.std.proofs.Common.{◌≡◌, ℕ, ◌+◌, ◌-◌, ◌*◌, ◌≤◌, true, List, [], ◌++◌, length, take}
use Rattle.std.proofs.Common.{drop, refl, sym, ap, ◌∙◌, arith, subst, append_assoc, length-append, length-drop}
use Rattle.std.proofs.Common.{Option, None}
use Rattle.std.proofs.Math.Seq.{take-add}
use Rattle.std.proofs.lemmas.List.{length-take-le, take-append-drop, take_all}
use Rattle.ans_model.specs.Sequence.TokenKind.{TokenKind}
use Rattle.ans_model.specs.Sequence.Reads.{Reads, ReadsAs}
use Rattle.ans_players.specs.Situations.{Spelled, spelled}
use Rattle.ans_tokens.proofs.Readable.{reads_as_append}
use Rattle.ans_tokens.proofs.Scanning.{reads_on}
use Rattle.ans_pens.specs.Counted.{count_of, counted}
use Rattle.ans_pens.specs.declared.times.Times.{Times}
use Rattle.ans_kinds.proofs.KindsFound.{spelled_behind}
use Rattle.ans_mend.specs.NamedColours.{named_content, times_named}
use Rattle.ans_mend.specs.NameSearch.{IsNamedFirst, Grows, NoneIsNamed}
use Rattle.ans_mend.specs.declared.name_colours.Growth.{Growth}
use Rattle.ans_mend.specs.declared.name_search.NamingPlace.{NamingPlace}
use Rattle.ans_mend.proofs.RowEndsOut.{counted_within}
use Rattle.ans_mend.proofs.SearchSteps.{texts_long}

pub rest_of : (content : List ℕ) (read : ℕ) → take (length content - read) (drop read content) ≡ drop read content
rest_of content read = take_all (length content - read) (drop read content) (omega (arith, length-drop read content))

-- the first bytes are read, and so much was added to them
pub record GrownTo (content : List ℕ) (read : ℕ) (times : Option Times) (bytes : ℕ) : Type 0 where
  pub within : read ≤ length content
  pub few : count_of times ≤ read
  pub small : bytes ≤ 12 * read
  pub tokens : List TokenKind
  pub texts : List (List ℕ)
  pub reads : ReadsAs (take read content) tokens texts
  pub long : (more : List Spelled)
      → length (named_content (spelled tokens texts ++ more)) ≡ read + bytes + length (named_content more)
  pub times_are : (more : List Spelled)
      → times_named 0 None (spelled tokens texts ++ more) ≡ times_named read times more

pub grown_to_nothing : (content : List ℕ) → GrownTo content 0 None 0
grown_to_nothing content = record {
  within = omega arith;
  few = omega arith;
  small = omega arith;
  tokens = [];
  texts = [];
  reads = record { each = tt; whole = refl };
  long = λ more. omega arith;
  times_are = λ more. refl;
}

module _ (content : List ℕ) (read : ℕ) (times : Option Times) (bytes : ℕ) (h : GrownTo content read times bytes) where
  -- one sequence more
  pub grown_more : (g : NamingPlace) → IsNamedFirst (drop read content) g
      → GrownTo content (read + g.end) (counted times true (read + g.start))
      (bytes + (length g.put.now - (g.rest - g.zero)))
  grown_more g f =
      let long : length (drop read content) ≡ length content - read = length-drop read content in
      let within = h.within in
      let reached = f.within in
      let few = h.few in
      let small = h.small in
      let some = f.some in
      let put = f.few in
      let order = f.zero in
      let grows = f.more in
      let last = f.rest in
      let both : (more : List Spelled) → spelled (h.tokens ++ f.tokens) (h.texts ++ f.texts) ++ more
      ≡ spelled h.tokens h.texts ++ (spelled f.tokens f.texts ++ more) =
      λ more. ap (λ (v : List Spelled). v ++ more)
      (spelled_behind h.tokens f.tokens h.texts f.texts (texts_long _ h.tokens h.texts h.reads))
      ∙ append_assoc (spelled h.tokens h.texts) (spelled f.tokens f.texts) more in
      record {
        within = omega (arith, within, reached, long);
        few = let less = counted_within times (read + g.start) read few in omega (arith, less, some);
        small = omega (arith, small, put, some);
        tokens = h.tokens ++ f.tokens;
        texts = h.texts ++ f.texts;
        reads = subst (λ (v : List ℕ). ReadsAs v (h.tokens ++ f.tokens) (h.texts ++ f.texts))
            (sym (take-add read g.end content))
            (reads_as_append (take read content) (take g.end (drop read content)) h.tokens f.tokens h.texts f.texts
            h.reads f.reads);
        long = λ more.
            let front : length (take g.zero (drop read content)) ≡ g.zero =
            length-take-le g.zero (drop read content) (omega (arith, order, last, reached)) in
            let rest : length (take (g.end - g.rest) (drop g.rest (drop read content))) ≡ g.end - g.rest =
            length-take-le (g.end - g.rest) (drop g.rest (drop read content))
            (rw (length-drop g.rest (drop read content)) (omega (arith, last, reached))) in
            let first = h.long (spelled f.tokens f.texts ++ more) in
            let parts = ap length (f.content more) in
            let a = length-append (take g.zero (drop read content)) (g.put.now
            ++ (take (g.end - g.rest) (drop g.rest (drop read content)) ++ named_content more)) in
            let b = length-append g.put.now
            (take (g.end - g.rest) (drop g.rest (drop read content)) ++ named_content more) in
            let d = length-append (take (g.end - g.rest) (drop g.rest (drop read content))) (named_content more) in
            ap (λ (v : List Spelled). length (named_content v)) (both more)
            ∙ omega (arith, first, parts, a, b, d, front, rest, order, grows, last);
        times_are = λ more.
            ap (times_named 0 None) (both more) ∙ h.times_are (spelled f.tokens f.texts ++ more)
            ∙ f.times read times more;
      }

  -- nothing more
  pub grown_whole : (growth : Growth) → growth.times ≡ times → growth.bytes ≡ bytes → NoneIsNamed (drop read content)
      → Grows content growth
  grown_whole growth times_is bytes_is f =
      let both : spelled (h.tokens ++ f.tokens) (h.texts ++ f.texts)
      ≡ spelled h.tokens h.texts ++ spelled f.tokens f.texts =
      spelled_behind h.tokens f.tokens h.texts f.texts (texts_long _ h.tokens h.texts h.reads) in
      record {
        tokens = h.tokens ++ f.tokens;
        texts = h.texts ++ f.texts;
        reads = subst (λ (v : List ℕ). ReadsAs v (h.tokens ++ f.tokens) (h.texts ++ f.texts))
            (take-append-drop read content)
            (reads_as_append (take read content) (drop read content) h.tokens f.tokens h.texts f.texts h.reads f.reads);
        long =
            let first = h.long (spelled f.tokens f.texts) in
            let stays = ap length f.content in
            let within = h.within in
            ap (λ (v : List Spelled). length (named_content v)) both
            ∙ omega (arith, first, stays, bytes_is, within, length-drop read content);
        times = times_is ∙ sym (ap (times_named 0 None) both ∙ h.times_are (spelled f.tokens f.texts)
            ∙ f.times read times);
      }

  -- what cannot be read on cannot be read
  pub unread : ((tokens : List TokenKind) → ¬ Reads (drop read content) tokens)
      → (tokens : List TokenKind) → ¬ Reads content tokens
  unread none tokens reads =
      let on = reads_on (take read content) (drop read content) h.tokens tokens (h.texts, h.reads)
      (subst (λ (v : List ℕ). Reads v tokens) (sym (take-append-drop read content)) reads) in
      none on.later on.reads
