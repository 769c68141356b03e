-- The operators, their numbers and their names.
use Rattle.std.specs.Prelude.{ℕ, List, [], ◌∷◌, codes, Option}
use Rattle.std.specs.List.{find}
use Rattle.std.specs.Str.{bytes_eq}
use Rattle.objects.specs.declared.operator.Operator.{Operator}
use Rattle.objects.specs.declared.operator.Operator.TheVariants.{Pop, Exch, Dup, Copy, Index, Roll, Clear, Count, Mark, ClearToMark, CountToMark, Add, Sub, Mul, Idiv, Mod, Neg, Abs, Eq, Ne, Gt, Ge, Lt, Le, And, Or, Xor, Not, True, False, Null, Array, OpenBracket, CloseBracket, Length, Get, Put, Aload, Astore, Forall, String, Dict, MaxLength, Begin, End, Def, Load, Store, Known, Where, CurrentDict, CountDictStack, UserDict, Exec, If, IfElse, For, Repeat, Loop, Exit, Stop, Stopped, Cvx, Cvlit, Cvn, Xcheck, Save, Restore, Print, Equals}

abbrev pub number : Operator → ℕ
number Pop = 1
number Exch = 2
number Dup = 3
number Copy = 4
number Index = 5
number Roll = 6
number Clear = 7
number Count = 8
number Mark = 9
number ClearToMark = 10
number CountToMark = 11
number Add = 12
number Sub = 13
number Mul = 14
number Idiv = 15
number Mod = 16
number Neg = 17
number Abs = 18
number Eq = 19
number Ne = 20
number Gt = 21
number Ge = 22
number Lt = 23
number Le = 24
number And = 25
number Or = 26
number Xor = 27
number Not = 28
number True = 29
number False = 30
number Null = 31
number Array = 32
number OpenBracket = 33
number CloseBracket = 34
number Length = 35
number Get = 36
number Put = 37
number Aload = 38
number Astore = 39
number Forall = 40
number String = 41
number Dict = 42
number MaxLength = 43
number Begin = 44
number End = 45
number Def = 46
number Load = 47
number Store = 48
number Known = 49
number Where = 50
number CurrentDict = 51
number CountDictStack = 52
number UserDict = 53
number Exec = 54
number If = 55
number IfElse = 56
number For = 57
number Repeat = 58
number Loop = 59
number Exit = 60
number Stop = 61
number Stopped = 62
number Cvx = 63
number Cvlit = 64
number Cvn = 65
number Xcheck = 66
number Save = 67
number Restore = 68
number Print = 69
number Equals = 70

abbrev pub name : Operator → List ℕ
name Pop = codes "pop"
name Exch = codes "exch"
name Dup = codes "dup"
name Copy = codes "copy"
name Index = codes "index"
name Roll = codes "roll"
name Clear = codes "clear"
name Count = codes "count"
name Mark = codes "mark"
name ClearToMark = codes "cleartomark"
name CountToMark = codes "counttomark"
name Add = codes "add"
name Sub = codes "sub"
name Mul = codes "mul"
name Idiv = codes "idiv"
name Mod = codes "mod"
name Neg = codes "neg"
name Abs = codes "abs"
name Eq = codes "eq"
name Ne = codes "ne"
name Gt = codes "gt"
name Ge = codes "ge"
name Lt = codes "lt"
name Le = codes "le"
name And = codes "and"
name Or = codes "or"
name Xor = codes "xor"
name Not = codes "not"
name True = codes "true"
name False = codes "false"
name Null = codes "null"
name Array = codes "array"
name OpenBracket = codes "["
name CloseBracket = codes "]"
name Length = codes "length"
name Get = codes "get"
name Put = codes "put"
name Aload = codes "aload"
name Astore = codes "astore"
name Forall = codes "forall"
name String = codes "string"
name Dict = codes "dict"
name MaxLength = codes "maxlength"
name Begin = codes "begin"
name End = codes "end"
name Def = codes "def"
name Load = codes "load"
name Store = codes "store"
name Known = codes "known"
name Where = codes "where"
name CurrentDict = codes "currentdict"
name CountDictStack = codes "countdictstack"
name UserDict = codes "userdict"
name Exec = codes "exec"
name If = codes "if"
name IfElse = codes "ifelse"
name For = codes "for"
name Repeat = codes "repeat"
name Loop = codes "loop"
name Exit = codes "exit"
name Stop = codes "stop"
name Stopped = codes "stopped"
name Cvx = codes "cvx"
name Cvlit = codes "cvlit"
name Cvn = codes "cvn"
name Xcheck = codes "xcheck"
name Save = codes "save"
name Restore = codes "restore"
name Print = codes "print"
name Equals = codes "="

-- in the order of their numbers
abbrev pub operators : List Operator
operators = Pop ∷ Exch ∷ Dup ∷ Copy ∷ Index ∷ Roll ∷ Clear ∷ Count ∷ Mark ∷ ClearToMark ∷ CountToMark ∷ Add ∷ Sub ∷ Mul ∷ Idiv ∷ Mod ∷ Neg ∷ Abs ∷ Eq ∷ Ne ∷ Gt ∷ Ge ∷ Lt ∷ Le ∷ And ∷ Or ∷ Xor ∷ Not ∷ True ∷ False ∷ Null ∷ Array ∷ OpenBracket ∷ CloseBracket ∷ Length ∷ Get ∷ Put ∷ Aload ∷ Astore ∷ Forall ∷ String ∷ Dict ∷ MaxLength ∷ Begin ∷ End ∷ Def ∷ Load ∷ Store ∷ Known ∷ Where ∷ CurrentDict ∷ CountDictStack ∷ UserDict ∷ Exec ∷ If ∷ IfElse ∷ For ∷ Repeat ∷ Loop ∷ Exit ∷ Stop ∷ Stopped ∷ Cvx ∷ Cvlit ∷ Cvn ∷ Xcheck ∷ Save ∷ Restore ∷ Print ∷ Equals ∷ []

-- the first of the operators that has the name
abbrev pub operator_named : List ℕ → Option Operator
operator_named text = find (λ o. bytes_eq (name o) text) operators
