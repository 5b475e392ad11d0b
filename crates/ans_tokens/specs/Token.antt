-- What a clause reads of a token.
use Rattle.std.specs.Prelude.{ℕ}
use Rattle.ans_model.specs.declared.kind.Kind.{Kind}
use Rattle.ans_tokens.specs.declared.token.Token.{Token}

-- `t.kind()`
abbrev pub kind_of : Token → Kind
kind_of t = t.kind

-- `t.start()`
abbrev pub start_of : Token → ℕ
start_of t = t.start

-- `t.length()`
abbrev pub length_of : Token → ℕ
length_of t = t.length
