-- A file's name is shown clean, and so is what is said with it.
use Rattle.std.proofs.Common.{◌≡◌, ◌∙◌, ap₂, ℕ, ◌<◌, Bool, true, refl, subst, arith, append-nil, All, List, [], ◌∷◌}
use Rattle.std.proofs.Common.{◌++◌, Option, Some, None, codes}
use Rattle.std.specs.Prelude.{◌&&◌, nat_lt, nat_le, IfSome, Err, Ok, Result, encode_utf8, is_some, option_map}
use Rattle.std.specs.Prelude.{unwrap_or}
use Rattle.std.specs.Borrow.{Bor}
use Rattle.std.specs.Char.{IsScalar}
use Rattle.std.specs.List.{list_all}
use Rattle.std.specs.Option.{option_map_or}
use Rattle.std.proofs.Math.Utf8.{low_scalar}
use Rattle.std.proofs.lemmas.Bool.{and_parts}
use Rattle.std.proofs.lemmas.Bool.Decides.{nat_tests}
use Rattle.std.proofs.lemmas.List.Elements.{All-nil, All-cons, All-append}
use Rattle.std.proofs.lemmas.Str.{encode_ascii, encodes-append}
use Rattle.ans_model.specs.Bytes.{IsByte}
use Rattle.ans_options.specs.CommandLine.{command_name}
use Rattle.ans_options.specs.declared.command.Command.{Command}
use Rattle.ans_options.specs.declared.command.Command.TheVariants.{Why, Check, Show, Sauce, Tokens, Needs, Table, Mend}
use Rattle.ans_options.specs.declared.command.Command.TheVariants.{Redraw}
use Rattle.ans_report.specs.Message.{message_line}
use Rattle.ans_save.specs.Reasons as save
use Rattle.ans_save.specs.declared.save_error.Reason.{Reason}
use Rattle.ans_save.specs.declared.save_error.Reason.TheVariants as cause
use Rattle.ans_save.specs.declared.save_error.SaveError.{SaveError}
use Rattle.ans_table.specs.NameText.{ascii_shown, byte_escape, is_shown, name_text}
use Rattle.ans_table.specs.Unopened.{is_missing, plain_text, reason_text}
use Rattle.ans_table.specs.declared.unopened.Unopened.{Unopened}
use Rattle.ans_table.specs.declared.unopened.Unopened.TheVariants.{Missing, Denied, Folder, Other}
use Rattle.ans_check_laws.proofs.ShownNames.{shown_of}
use Rattle.ans_check.specs.Said.{message_of, named_message, reason_said, unsaved_text}
use Rattle.ans_check.specs.Ending.{ending_message}
use Rattle.ans_check.specs.Naming.{front_text, meant_text, meant_told, missing_text, reason_told}
use Rattle.ans_check.specs.Naming.{unopened_text}
use Rattle.ans_check.specs.declared.errors.RunError.TheVariants as error
use Rattle.ans_check.specs.declared.exit_status.Ending.{Ending}
use Rattle.ans_check.specs.declared.exit_status.Ending.TheVariants.{Run, UnopenedFile, Unsaved}
use Rattle.ans_check.specs.declared.naming.Meant.{Meant}
use Rattle.ans_check.specs.declared.naming.Meant.TheVariants as meant
use Rattle.ans_check.specs.declared.naming.Naming.{Naming}
use Rattle.ans_check_laws.specs.CleanTexts.{HasNoControls, IsCleanText, IsControl}
use Rattle.ans_check_laws.proofs.CleanPieces as pieces
use Rattle.ans_check_laws.proofs.CleanPieces.{all_below, below_at, both_true, clean_append, clean_if, clean_nil}
use Rattle.ans_check_laws.proofs.CleanPieces.{clean_pieces, scalars_append, without_controls_clean}
use Rattle.ans_check_laws.proofs.CleanReports.{message_clean, save_error_clean}

-- ---- a name

no_controls_nil : HasNoControls []
no_controls_nil =
    record { characters = []; are_characters = refl; spelled = refl; none = All-nil (λ c. ¬ IsControl c) }

no_controls_append : (a b : List ℕ) → HasNoControls a → HasNoControls b → HasNoControls (a ++ b)
no_controls_append a b h g = record {
  characters = h.characters ++ g.characters;
  are_characters = scalars_append h.characters g.characters h.are_characters g.are_characters;
  spelled = encodes-append h.characters g.characters ∙ ap₂ (λ (x y : List ℕ). x ++ y) h.spelled g.spelled;
  none = All-append (λ c. ¬ IsControl c) h.characters g.characters h.none g.none;
}

one_character : (c : ℕ) → IsScalar c → ¬ IsControl c → HasNoControls (encode_utf8 c)
one_character c is no_control = record {
  characters = c ∷ [];
  are_characters = both_true _ true is refl;
  spelled = append-nil (encode_utf8 c);
  none = All-cons (λ c. ¬ IsControl c) c [] no_control (All-nil (λ c. ¬ IsControl c));
}

shown_no_control : (c : ℕ) → is_shown c ≡ true → ¬ IsControl c
shown_no_control c shown control =
    let high : nat_lt 0x9F c ≡ true = (and_parts (nat_lt 0x9F c) _ shown).0 in
    grind (arith, nat_tests)

-- a printed character of ASCII
abbrev is_printed : ℕ → Bool
is_printed b = nat_le 0x20 b && nat_lt b 0x7F

printed_below : (b : ℕ) → is_printed b ≡ true → b < 0x7F
printed_below b h = grind (arith, nat_tests)

printed_no_control : (b : ℕ) → is_printed b ≡ true → ¬ IsControl b
printed_no_control b h control = grind (arith, nat_tests)

printed_byte : (b : ℕ) → is_printed b ≡ true → HasNoControls (b ∷ [])
printed_byte b h =
    subst HasNoControls (encode_ascii b (omega (arith, printed_below b h)))
    (one_character b (low_scalar b (omega (arith, printed_below b h))) (printed_no_control b h))

printed_text : (bytes : List ℕ) → list_all is_printed bytes ≡ true → HasNoControls bytes
printed_text [] h = no_controls_nil
printed_text (b ∷ bytes) h =
    let parts = and_parts (is_printed b) (list_all is_printed bytes) h in
    no_controls_append (b ∷ []) bytes (printed_byte b parts.0) (printed_text bytes parts.1)

all_ascii_printed : all_below (λ b. list_all is_printed (ascii_shown b)) 128 ≡ true
all_ascii_printed = refl

all_escapes_printed : all_below (λ b. list_all is_printed (byte_escape b)) 256 ≡ true
all_escapes_printed = refl

pub name_has_no_controls : (name : List ℕ) → All IsByte name → HasNoControls (name_text name)
name_has_no_controls =
    shown_of HasNoControls no_controls_nil no_controls_append
    (λ b lt. printed_text (ascii_shown b)
    (below_at (λ n. list_all is_printed (ascii_shown n)) 128 b all_ascii_printed lt))
    (λ b lt. printed_text (byte_escape b)
    (below_at (λ n. list_all is_printed (byte_escape n)) 256 b all_escapes_printed lt))
    (λ c is shown. one_character c is (shown_no_control c shown))

name_clean : (name : List ℕ) → All IsByte name → IsCleanText (name_text name)
name_clean name bytes = without_controls_clean (name_text name) (name_has_no_controls name bytes)

-- ---- what is said with it

-- the name of the input, if it is told, is bytes
abbrev pub IsNameOfBytes : Naming → Type 0
IsNameOfBytes n = IfSome (option_map (λ name. name.now) n.name) (All IsByte)

front_clean : (name : Option (Bor (List ℕ))) → IfSome (option_map (λ n. n.now) name) (All IsByte)
    → IsCleanText (option_map_or (λ n. name_text n.now ++ codes ": ") name [])
front_clean None h = clean_nil
front_clean (Some name) h =
    clean_append (name_text name.now) (codes ": ") (name_clean name.now h) (pieces.plain_text (codes ": ") refl)

named_clean : (name : Option (List ℕ)) → IfSome name (All IsByte) → IsCleanText (name_text (unwrap_or name []))
named_clean None h = clean_nil
named_clean (Some name) h = name_clean name h

command_clean : (c : Command) → IsCleanText (command_name c)
command_clean Why = pieces.plain_text (command_name Why) refl
command_clean Needs = pieces.plain_text (command_name Needs) refl
command_clean Check = pieces.plain_text (command_name Check) refl
command_clean (Show form) = pieces.plain_text (command_name (Show form)) refl
command_clean Sauce = pieces.plain_text (command_name Sauce) refl
command_clean Tokens = pieces.plain_text (command_name Tokens) refl
command_clean (Table form) = pieces.plain_text (command_name (Table form)) refl
command_clean (Mend choice) = pieces.plain_text (command_name (Mend choice)) refl
command_clean Redraw = pieces.plain_text (command_name Redraw) refl

meant_clean : (name : Option (List ℕ)) → IfSome name (All IsByte) → (m : Meant) → IsCleanText (meant_text name m)
meant_clean name h meant.Nothing = clean_nil
meant_clean name h (meant.Command c) =
    clean_append (codes "; did you mean ") (command_name c ++ codes "?")
    (pieces.plain_text (codes "; did you mean ") refl)
    (clean_append (command_name c) (codes "?") (command_clean c) (pieces.plain_text (codes "?") refl))
meant_clean name h meant.Topic =
    clean_append (codes "; did you mean anscheck help ") (name_text (unwrap_or name []) ++ codes "?")
    (pieces.plain_text (codes "; did you mean anscheck help ") refl)
    (clean_append (name_text (unwrap_or name [])) (codes "?") (named_clean name h)
    (pieces.plain_text (codes "?") refl))

told_clean : {E : Type 0} (name : Option (List ℕ)) → IfSome name (All IsByte) → (m : Result Meant E)
    → IsCleanText (meant_told name m)
told_clean name h (Ok m) = meant_clean name h m
told_clean name h (Err e) = clean_nil

missing_clean : (n : Naming) → IsNameOfBytes n → IsCleanText (missing_text n)
missing_clean n h =
    let name = option_map (λ name. name.now) n.name in
    clean_append (codes "no such file, and no such command") (meant_told name n.meant)
    (pieces.plain_text (codes "no such file, and no such command") refl) (told_clean name h n.meant)

reason_clean : (reason : Unopened) → IsCleanText (reason_text reason)
reason_clean Missing = pieces.plain_text (reason_text Missing) refl
reason_clean Denied = pieces.plain_text (reason_text Denied) refl
reason_clean Folder = pieces.plain_text (reason_text Folder) refl
reason_clean Other = pieces.plain_text (reason_text Other) refl

plain_clean : (reason : Unopened) → IsCleanText (plain_text reason)
plain_clean Missing = pieces.plain_text (plain_text Missing) refl
plain_clean Denied = pieces.plain_text (plain_text Denied) refl
plain_clean Folder = pieces.plain_text (plain_text Folder) refl
plain_clean Other = pieces.plain_text (plain_text Other) refl

unopened_clean : (n : Naming) → IsNameOfBytes n → (reason : Unopened) → IsCleanText (unopened_text n reason)
unopened_clean n h reason =
    clean_if (is_some n.name) (front_text n ++ reason_told n reason) (plain_text reason)
    (clean_append (front_text n) (reason_told n reason) (front_clean n.name h)
    (clean_if (n.is_word && is_missing reason) (missing_text n) (reason_text reason) (missing_clean n h)
    (reason_clean reason)))
    (plain_clean reason)

save_reason_clean : (reason : Reason) → IsCleanText (save.reason_text reason)
save_reason_clean cause.Missing = pieces.plain_text (save.reason_text cause.Missing) refl
save_reason_clean cause.Denied = pieces.plain_text (save.reason_text cause.Denied) refl
save_reason_clean cause.Folder = pieces.plain_text (save.reason_text cause.Folder) refl
save_reason_clean cause.NoFolder = pieces.plain_text (save.reason_text cause.NoFolder) refl
save_reason_clean cause.Special = pieces.plain_text (save.reason_text cause.Special) refl
save_reason_clean cause.Full = pieces.plain_text (save.reason_text cause.Full) refl
save_reason_clean cause.ReadOnly = pieces.plain_text (save.reason_text cause.ReadOnly) refl
save_reason_clean cause.Taken = pieces.plain_text (save.reason_text cause.Taken) refl
save_reason_clean cause.Other = pieces.plain_text (save.reason_text cause.Other) refl

reason_said_clean : (reason : Option Reason) → IsCleanText (reason_said reason)
reason_said_clean None = clean_nil
reason_said_clean (Some reason) =
    clean_append (codes ": ") (save.reason_text reason) (pieces.plain_text (codes ": ") refl) (save_reason_clean reason)

unsaved_clean : (n : Naming) → IsNameOfBytes n → (e : SaveError) → IsCleanText (unsaved_text n e)
unsaved_clean n h e =
    clean_append (front_text n) (codes "not written: " ++ (save.error_text e ++ reason_said (save.reason_in e)))
    (front_clean n.name h)
    (clean_append (codes "not written: ") (save.error_text e ++ reason_said (save.reason_in e))
    (pieces.plain_text (codes "not written: ") refl)
    (clean_append (save.error_text e) (reason_said (save.reason_in e)) (save_error_clean e)
    (reason_said_clean (save.reason_in e))))

named_message_clean : (n : Naming) → IsNameOfBytes n → (ending : Ending) (text : List ℕ) → IsCleanText text
    → IsCleanText (named_message n ending text)
named_message_clean n h (UnopenedFile reason) text clean = unopened_clean n h reason
named_message_clean n h (Run (Err error.Read)) text clean =
    clean_append (front_text n) text (front_clean n.name h) clean
named_message_clean n h (Run (Err error.TooLong)) text clean =
    clean_append (front_text n) text (front_clean n.name h) clean
named_message_clean n h (Unsaved e) text clean = unsaved_clean n h e
named_message_clean n h ending text clean = clean

pub named_messages_clean : (n : Naming) → IsNameOfBytes n → (ending : Ending) (text : List ℕ)
    → message_of n ending ≡ Some text → IsCleanText (message_line text)
named_messages_clean n h ending text e =
    let clean : IsCleanText text = go (ending_message ending) (message_clean ending) e in
    search clean_pieces
  where
    go : (o : Option (List ℕ)) → IfSome o IsCleanText → option_map (named_message n ending) o ≡ Some text
        → IsCleanText text
    go None said e = absurd (cc)
    go (Some said) is e =
        let same : named_message n ending said ≡ text = cc in
        subst IsCleanText same (named_message_clean n h ending said is)
