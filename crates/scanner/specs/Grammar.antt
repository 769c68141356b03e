-- A token by its grammar: an integer, a name or a string; or a procedure, which is an opening brace, elements, and a closing brace.
-- An element is what a token is.
use Rattle.std.specs.Prelude.{ℕ, zero, suc, ◌+◌, ◌-◌, Bool, true, false, cond, List, [], ◌∷◌, ◌++◌, length, Some, Ok, Err, Result, nat_lt}
use Rattle.names.specs.Names.{join_answer, names_joined}
use Rattle.objects.specs.declared.fault.Fault.{Fault}
use Rattle.objects.specs.declared.fault.Fault.TheVariants.{SyntaxError, LimitCheck}
use Rattle.objects.specs.declared.object.Value.TheVariants.{Integer, Name}
use Rattle.scanner.specs.Lexemes.{Piece, ended, opening, closing, integer, name, literal, string, Reading, lexeme}
use Rattle.scanner.specs.Tokens.{Scanned, none, refuses}
use Rattle.scanner.specs.declared.element.Element.{Element}
use Rattle.scanner.specs.declared.element.Element.TheVariants.{Object, String, Procedure}

-- what was read of an outermost token: the names, the elements of its closed procedures, how many elements it has, and its string bytes; and the bytes that are left
pub record Kept : Type 0 where
  pub names : List (List ℕ)
  pub shut : List Element
  pub count : ℕ
  pub strings : List ℕ
  pub left : List ℕ

-- a whole element, and what is kept behind it; or where and how it breaks off
pub data Spelled : Type 0 where
  whole : Element → Kept → Spelled
  broken : Fault → List (List ℕ) → List ℕ → Spelled

abbrev pub and_then : Spelled → (Element → Kept → Spelled) → Spelled
and_then (whole e k) more = more e k
and_then (broken f names bs) more = broken f names bs

abbrev pub read_to : Kept → Reading → Kept
read_to k r = record k { strings = r.strings; left = r.left }

-- a name joins the name table
abbrev pub numbered : Bool → Result ℕ Fault → List (List ℕ) → Kept → Spelled
numbered executable (Ok n) names k = whole (Object (record { value = Name n; executable = executable })) (record k { names = names })
numbered executable (Err f) names k = broken f names k.left

abbrev pub a_name : Bool → List ℕ → Kept → Spelled
a_name executable text k = numbered executable (join_answer text k.names) (names_joined text k.names) k

-- one more of at most 512 elements, and then more
abbrev pub one_more : (List Element → Kept → Spelled) → List Element → Element → Kept → Spelled
one_more more mine e k = cond (nat_lt k.count 512) (more (mine ++ e ∷ []) (record k { count = k.count + 1 })) (broken LimitCheck k.names k.left)

-- the piece that comes next in a procedure; its elements lie behind those of all that closed before it
abbrev pub in_procedure : (List Element → Kept → Spelled) → (Kept → Spelled) → ℕ → List Element → ℕ → Kept → Result Piece Fault → Spelled
in_procedure more inner depth mine before k (Err f) = broken f k.names k.left
in_procedure more inner depth mine before k (Ok ended) = broken SyntaxError k.names k.left
in_procedure more inner depth mine before k (Ok closing) = whole (Procedure (record { start = length k.shut; len = length mine })) (record k { shut = k.shut ++ mine })
in_procedure more inner depth mine before k (Ok opening) = cond (nat_lt depth 16) (and_then (inner k) (one_more more mine)) (broken LimitCheck k.names k.left)
in_procedure more inner depth mine before k (Ok (integer z)) = one_more more mine (Object (record { value = Integer z; executable = false })) k
in_procedure more inner depth mine before k (Ok (name text)) = and_then (a_name true text k) (one_more more mine)
in_procedure more inner depth mine before k (Ok (literal text)) = and_then (a_name false text k) (one_more more mine)
in_procedure more inner depth mine before k (Ok string) = one_more more mine (String (record { start = before; len = length k.strings - before })) k

-- The rest of a procedure that lies so deep and has some elements already. Each piece takes a byte, so there are turns enough.
unfoldable pub procedure_rest : ℕ → ℕ → List Element → Kept → Spelled
procedure_rest zero depth mine k = broken SyntaxError k.names k.left
procedure_rest (suc turns) depth mine k =
    in_procedure (λ mine' k'. procedure_rest turns depth mine' k') (λ k'. procedure_rest turns (suc depth) [] k') depth mine (length k.strings) (read_to k (lexeme k.strings k.left)) (lexeme k.strings k.left).said

-- an outermost token that is whole says what it needs
abbrev pub outermost : Spelled → Scanned
outermost (whole e k) = record { answer = Ok (Some (record { element = e; slots = length k.shut; bytes = length k.strings })); slots = k.shut; bytes = k.strings; names = k.names; left = k.left }
outermost (broken f names bs) = refuses f names bs

abbrev pub by_grammar : ℕ → Kept → Result Piece Fault → Scanned
by_grammar turns k (Err f) = refuses f k.names k.left
by_grammar turns k (Ok ended) = none k.names k.left
by_grammar turns k (Ok closing) = refuses SyntaxError k.names k.left
by_grammar turns k (Ok opening) = outermost (procedure_rest turns 1 [] k)
by_grammar turns k (Ok (integer z)) = outermost (whole (Object (record { value = Integer z; executable = false })) k)
by_grammar turns k (Ok (name text)) = outermost (a_name true text k)
by_grammar turns k (Ok (literal text)) = outermost (a_name false text k)
by_grammar turns k (Ok string) = outermost (whole (String (record { start = 0; len = length k.strings })) k)

abbrev pub at_first : List (List ℕ) → List ℕ → Kept
at_first names bs = record { names = names; shut = []; count = 0; strings = []; left = bs }

-- the next token of the text
abbrev pub token : List (List ℕ) → List ℕ → Scanned
token names bs = by_grammar (length bs) (read_to (at_first names bs) (lexeme [] bs)) (lexeme [] bs).said
