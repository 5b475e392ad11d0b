-- What the search for sequences that are to name colours has found. Only private contracts cite it.
use Rattle.std.specs.Prelude.{◌≡◌, ℕ, ◌+◌, ◌-◌, ◌<◌, ◌≤◌, Bool, true, false, not, List, ◌∷◌, ◌++◌, length, take, drop}
use Rattle.std.specs.Prelude.{map, Option, None, Some, if◌then◌else◌}
use Rattle.std.specs.List.{concat}
use Rattle.ans_model.specs.Inside.ShownKind.{shown_kind}
use Rattle.ans_model.specs.Sequence.TokenKind.{TokenKind}
use Rattle.ans_model.specs.Sequence.Reads.{ReadsAs}
use Rattle.ans_players.specs.Names.{Names, are_both, unnamed}
use Rattle.ans_players.specs.Situations.{Spelled, spelled}
use Rattle.ans_tokens.specs.Token.{kind_of, start_of, length_of}
use Rattle.ans_tokens.specs.Walk.{Front}
use Rattle.ans_tokens.specs.declared.token.Token.{Token}
use Rattle.ans_pens.specs.Counted.{counted}
use Rattle.ans_kinds.specs.NamesShown.{shown_names}
use Rattle.ans_pens.specs.declared.times.Times.{Times}
use Rattle.ans_mend.specs.NamedColours.{begins_unnamed, named_content, named_sequence, names_at_print, numbers_to_zero}
use Rattle.ans_mend.specs.NamedColours.{takes_names, times_named}
use Rattle.ans_mend.specs.declared.name_colours.Growth.{Growth}
use Rattle.ans_mend.specs.declared.name_search.First.{First}
use Rattle.ans_mend.specs.declared.name_search.NamingPlace.{NamingPlace}
use Rattle.ans_mend.specs.declared.name_search.NameSearch.{NameSearch}
use Rattle.ans_mend.specs.declared.name_search.Taking.{Taking}
use Rattle.ans_mend.specs.declared.name_search.Waiting.{Waiting}

-- the bytes of tokens
abbrev pub bytes_of : List Spelled → List ℕ
bytes_of xs = concat (map (λ x. x.text) xs)

-- No sequence of these tokens waits for what comes next: they stay, whatever comes.
pub record NoneWaits (xs : List Spelled) : Type 0 where
  pub content : (more : List Spelled) → named_content (xs ++ more) ≡ bytes_of xs ++ named_content more
  pub times : (offset : ℕ) (times : Option Times) (more : List Spelled)
      → times_named offset times (xs ++ more) ≡ times_named (offset + length (bytes_of xs)) times more

-- One sequence of these tokens waits for what comes next: it gets what is missing then, and the others stay.
pub record Waits (xs : List Spelled) (taking : Taking) (named : List Spelled → Names) : Type 0 where
  pub before : List Spelled
  pub waiting : Spelled
  pub after : List Spelled
  pub whole : xs ≡ before ++ waiting ∷ after
  pub start : taking.start ≡ length (bytes_of before)
  pub long : taking.length ≡ length waiting.text
  pub numbers : taking.numbers ≡ numbers_to_zero waiting.token
  pub content : (more : List Spelled) → named_content (xs ++ more)
      ≡ bytes_of before ++ (named_sequence (named more) waiting ++ (bytes_of after ++ named_content more))
  pub times : (offset : ℕ) (times : Option Times) (more : List Spelled)
      → times_named offset times (xs ++ more)
      ≡ times_named (offset + length (bytes_of xs))
      (counted times (not (are_both (named more))) (offset + taking.start)) more

-- what waits after a token that neither prints nor clears
abbrev pub taking_after : Option Taking → Token → Option Taking
taking_after taking token =
    let kind : TokenKind = shown_kind (kind_of token) in
    if takes_names kind
    then Some (record { start = start_of token; length = length_of token; numbers = numbers_to_zero kind })
    else taking

-- what waits after something is printed or cleared
abbrev pub taking_behind : NameSearch → Option Taking
taking_behind search = if are_both (shown_names search.named) then None else search.taking

-- the last sequence that takes the names away waits; where the search stopped, something is printed with these names
abbrev pub IsSearched : Bool → Option Taking → Names → List Spelled → Type 0
IsSearched true None n xs = NoneWaits xs
IsSearched true (Some taking) n xs = Waits xs taking (names_at_print n)
IsSearched false None n xs = ⊥
IsSearched false (Some taking) n xs = Waits xs taking (λ more. n) × (are_both n ≡ false)

-- over the front the search has come here, and goes on or stops
pub record HasSearched (first : NameSearch) (front : Front) (goes_on : Bool) (now : NameSearch) : Type 0 where
  pub texts : length front.texts ≡ length front.tokens
  pub behind : now.behind ≡ length front.behind
  pub searched : IsSearched goes_on now.taking (shown_names now.named) (spelled front.tokens front.texts)

-- the bytes are read, and no sequence gets names
pub record NoneIsNamed (bytes : List ℕ) : Type 0 where
  pub tokens : List TokenKind
  pub texts : List (List ℕ)
  pub reads : ReadsAs bytes tokens texts
  pub content : named_content (spelled tokens texts) ≡ bytes
  pub times : (offset : ℕ) (times : Option Times) → times_named offset times (spelled tokens texts) ≡ times

-- In the first bytes a sequence waits up to where something is printed with these names, which are not both.
pub record WaitsIn (bytes : List ℕ) (w : Waiting) : Type 0 where
  pub tokens : List TokenKind
  pub texts : List (List ℕ)
  pub left : List ℕ
  pub reads : ReadsAs (concat texts) tokens texts
  pub whole : bytes ≡ concat texts ++ left
  pub end : w.end ≡ length (concat texts)
  pub waits : Waits (spelled tokens texts) w.taking (λ more. shown_names w.named)
  pub missing : are_both (shown_names w.named) ≡ false
  pub within : w.taking.start + w.taking.length ≤ length bytes

-- the first bytes are read, whatever comes: one sequence in them gets names, and the others stay
pub record IsNamedFirst (bytes : List ℕ) (g : NamingPlace) : Type 0 where
  pub tokens : List TokenKind
  pub texts : List (List ℕ)
  pub reads : ReadsAs (take g.end bytes) tokens texts
  pub start : g.start ≤ g.zero
  pub zero : g.zero ≤ g.rest
  pub rest : g.rest ≤ g.end
  pub some : 0 < g.end
  pub within : g.end ≤ length bytes
  pub few : length g.put.now ≤ 12
  pub more : g.rest < g.zero + length g.put.now
  pub content : (more : List Spelled) → named_content (spelled tokens texts ++ more)
      ≡ take g.zero bytes ++ (g.put.now ++ (take (g.end - g.rest) (drop g.rest bytes) ++ named_content more))
  pub times : (offset : ℕ) (times : Option Times) (more : List Spelled)
      → times_named offset times (spelled tokens texts ++ more)
      ≡ times_named (offset + g.end) (counted times true (offset + g.start)) more

-- ---- what is printed first

-- what is printed or cleared first is what comes next, or has been found
abbrev pub IsFirst : Bool → Bool → Names → List Spelled → Type 0
IsFirst true found n xs = (found ≡ false)
    × ((more : List Spelled) → names_at_print unnamed (xs ++ more) ≡ names_at_print n more)
IsFirst false found n xs = (more : List Spelled) → begins_unnamed (xs ++ more) ≡ found

pub record HasLookedAtFirst (first : First) (front : Front) (goes_on : Bool) (now : First) : Type 0 where
  pub texts : length front.texts ≡ length front.tokens
  pub looked : IsFirst goes_on now.unnamed (shown_names now.named) (spelled front.tokens front.texts)

-- ---- a content

-- this many bytes are added by naming, this many times
pub record Grows (content : List ℕ) (growth : Growth) : Type 0 where
  pub tokens : List TokenKind
  pub texts : List (List ℕ)
  pub reads : ReadsAs content tokens texts
  pub long : length (named_content (spelled tokens texts)) ≡ length content + growth.bytes
  pub times : growth.times ≡ times_named 0 None (spelled tokens texts)

-- the bytes are read, and have this length with their colours named
pub record HaveNamedLength (bytes : List ℕ) (count : ℕ) : Type 0 where
  pub tokens : List TokenKind
  pub texts : List (List ℕ)
  pub reads : ReadsAs bytes tokens texts
  pub long : length (named_content (spelled tokens texts)) ≡ count
