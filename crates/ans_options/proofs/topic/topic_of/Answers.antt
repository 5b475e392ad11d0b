use Rattle.std.proofs.Common.{◌≡◌, ◌≤◌, ◌<◌, true, List, [], ◌∷◌, length, None, arith, refl, slice_index_or, sym, ap}
use Rattle.std.proofs.Common.{◌∙◌, Bool}
use Rattle.std.specs.Prelude.{codes, if◌then◌else◌}
use Rattle.std.specs.Borrow.{Bor}
use Rattle.std.specs.Str.{bytes_eq}
use Rattle.clap.specs.Words.{Text}
use Rattle.ans_model.specs.Text.Words.{texts_of}
use Rattle.ans_options.specs.Topics.{topic_named, topic_of}
use Rattle.ans_options.proofs.topic.topic_of.Goals as goal

few : (words : List (Bor Text)) → length words < 3 → topic_of (texts_of words) ≡ None
few [] h = refl
few (a ∷ []) h = refl
few (a ∷ b ∷ []) h = refl
few (a ∷ b ∷ c ∷ more) h = absurd (omega arith)

many : (words : List (Bor Text)) → 4 ≤ length words → topic_of (texts_of words) ≡ None
many [] h = absurd (omega arith)
many (a ∷ []) h = absurd (omega arith)
many (a ∷ b ∷ []) h = absurd (omega arith)
many (a ∷ b ∷ c ∷ []) h = absurd (omega arith)
many (a ∷ b ∷ c ∷ d ∷ more) h = refl

three : (words : List (Bor Text)) (none : Bor Text) → 3 ≤ length words → length words < 4
    → true ≡ bytes_eq (slice_index_or words 1 none).now (codes "help")
    → topic_named (slice_index_or words 2 none).now ≡ topic_of (texts_of words)
three [] none h l help = absurd (omega arith)
three (a ∷ []) none h l help = absurd (omega arith)
three (a ∷ b ∷ []) none h l help = absurd (omega arith)
three (a ∷ b ∷ c ∷ []) none h l help =
    ap (λ (is : Bool). if is then topic_named c.now else None) help
three (a ∷ b ∷ c ∷ d ∷ more) none h l help = absurd (omega arith)

pub returns-in_default : goal.returns-in_default
returns-in_default c = sym (few c.args.words.now c.in_default.len_below)

pub returns-in_default-2 : goal.returns-in_default-2
returns-in_default-2 c = sym (many c.args.words.now c.in_default.len_at_least)

pub returns-then-eq : goal.returns-then-eq
returns-then-eq c = c.topic_named.ensures
    ∙ three c.args.words.now _ c.in-len3.len_at_least c.in-len3.len_below c.if-eq.ensures
