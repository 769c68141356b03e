-- The number and the name of each refusal. Number 3 is not used.
use Rattle.std.specs.Prelude.{ℕ, List, codes}
use Rattle.objects.specs.declared.fault.Fault.{Fault}
use Rattle.objects.specs.declared.fault.Fault.TheVariants.{StackUnderflow, TypeCheck, RangeCheck, LimitCheck, Undefined, UndefinedResult, UnmatchedMark, InvalidExit, InvalidRestore, DictFull, DictStackUnderflow, DictStackOverflow, ExecStackOverflow, VmError, IoError, StackOverflow, SyntaxError, UncaughtStop, NotSetUp, SecondSetUp, NoOperand}

abbrev pub fault_number : Fault → ℕ
fault_number StackUnderflow = 1
fault_number TypeCheck = 2
fault_number RangeCheck = 4
fault_number LimitCheck = 5
fault_number Undefined = 6
fault_number UndefinedResult = 7
fault_number UnmatchedMark = 8
fault_number InvalidExit = 9
fault_number InvalidRestore = 10
fault_number DictFull = 11
fault_number DictStackUnderflow = 12
fault_number DictStackOverflow = 13
fault_number ExecStackOverflow = 14
fault_number VmError = 15
fault_number IoError = 16
fault_number StackOverflow = 17
fault_number SyntaxError = 18
fault_number UncaughtStop = 19
fault_number NotSetUp = 20
fault_number SecondSetUp = 21
fault_number NoOperand = 22

abbrev pub fault_name : Fault → List ℕ
fault_name StackUnderflow = codes "stackunderflow"
fault_name TypeCheck = codes "typecheck"
fault_name RangeCheck = codes "rangecheck"
fault_name LimitCheck = codes "limitcheck"
fault_name Undefined = codes "undefined"
fault_name UndefinedResult = codes "undefinedresult"
fault_name UnmatchedMark = codes "unmatchedmark"
fault_name InvalidExit = codes "invalidexit"
fault_name InvalidRestore = codes "invalidrestore"
fault_name DictFull = codes "dictfull"
fault_name DictStackUnderflow = codes "dictstackunderflow"
fault_name DictStackOverflow = codes "dictstackoverflow"
fault_name ExecStackOverflow = codes "execstackoverflow"
fault_name VmError = codes "VMerror"
fault_name IoError = codes "ioerror"
fault_name StackOverflow = codes "stackoverflow"
fault_name SyntaxError = codes "syntaxerror"
fault_name UncaughtStop = codes "uncaught stop"
fault_name NotSetUp = codes "not set up"
fault_name SecondSetUp = codes "second set up"
fault_name NoOperand = codes "no such operand"
