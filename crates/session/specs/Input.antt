-- The session program's input: three sections, each after its 32-bit count (docs/QUESTIONS.md, "The session program"). Definitions only.
use Rattle.std.specs.Prelude.{Bool, true, false, Option, Some, None, List, ℕ, ◌+◌, leb, eqb, length}
use Rattle.fields.specs.Fields.{field_at, section_of, rest_of}
use Rattle.params.specs.declared.params.Params.{Params}
use Rattle.params.specs.Params.{parse_of}
use Rattle.session.specs.declared.input.Call.{Call}
use Rattle.session.specs.declared.input.Call.TheVariants.{Render, Update}

-- ---- the parameters' count, which is 0x34, and the parameters

abbrev pub parameters_size : List ℕ → ℕ
parameters_size d = field_at 4 d 0x0

abbrev pub parameters_of : List ℕ → Params
parameters_of d = parse_of (section_of d 0x4 0x34)

-- ---- the memory's count, and the memory

abbrev pub memory_size : List ℕ → ℕ
memory_size d = field_at 4 d 0x38

abbrev pub memory_of : List ℕ → List ℕ
memory_of d = section_of d 0x3c (memory_size d)

-- ---- how many calls there are, where they begin, and their bytes

abbrev pub call_count : List ℕ → ℕ
call_count d = field_at 4 d (0x3c + memory_size d)

abbrev pub calls_at : List ℕ → ℕ
calls_at d = 0x40 + memory_size d

abbrev pub calls_of : List ℕ → List ℕ
calls_of d = rest_of d (calls_at d)

-- ---- the call at the front of d

abbrev pub pick : Bool → Option Call → Option Call → Option Call
pick true a b = a
pick false a b = b

-- byte 0, the expected size, the input's size, and the input, if it is all there
unfoldable pub update_of : List ℕ → Option Call
unfolding field_at
update_of d = pick (leb (9 + field_at 4 d 5) (length d)) (Some (Update (field_at 4 d 1) (field_at 4 d 5))) None

-- byte 1 is a render, byte 0 an update, any other no call
unfoldable pub call_of : List ℕ → Option Call
unfolding field_at update_of
call_of d = pick (eqb (field_at 1 d 0) 1) (Some Render) (pick (eqb (field_at 1 d 0) 0) (update_of d) None)

-- how many bytes a call has
abbrev pub size_of : Option Call → ℕ
size_of (Some Render) = 1
size_of (Some (Update expected size)) = 9 + size
size_of None = 0
