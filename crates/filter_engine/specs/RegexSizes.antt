-- How many states the automaton of a regular expression takes at most, by the text that writes it.
--
-- The text is read byte by byte. An item is a character, an escape, a class or a group: it takes so many
-- states, and so many more for each place from which it is entered. A repetition copies the item in front
-- of it. Blanks and comments, which flags may allow between the two, belong to the item, and so
-- do characters beyond ASCII.
use Rattle.std.specs.Prelude.{ℕ, ◌+◌, ◌-◌, ◌*◌, ◌==◌, ◌||◌, ◌&&◌, nat_lt, Bool, List, [], ◌∷◌, if◌then◌else◌}
use Rattle.std.specs.List.{fold}
use Rattle.filter_engine.specs.declared.regex_size.size.Size.{Size}
use Rattle.filter_engine.specs.declared.regex_size.size.Level.{Level}
use Rattle.filter_engine.specs.declared.regex_size.turn.Mode.{Mode}
use Rattle.filter_engine.specs.declared.regex_size.turn.Mode.TheVariants.{Pattern, Class, Comment}
use Rattle.filter_engine.specs.declared.regex_size.turn.Reading.{Reading}
use Rattle.filter_engine.specs.declared.regex_size.turn.Reading.TheVariants.{Item, Opened, Flags, Escaped, Named, Braced, Counted, First}
use Rattle.filter_engine.specs.declared.regex_size.turn.Act.{Act}
use Rattle.filter_engine.specs.declared.regex_size.turn.Act.TheVariants.{Nothing, Adds, Joins, Repeats, Opens, Closes}
use Rattle.filter_engine.specs.declared.regex_size.turn.Turn.{Turn}
use Rattle.filter_engine.specs.declared.regex_size.scan.Scan.{Scan}

-- the most states of an automaton
abbrev pub most_states : ℕ
most_states = 16384

-- numbers of states beyond 65,536 count as that
abbrev pub capped : ℕ → ℕ
capped number = if nat_lt number 65536 then number else 65536

-- numbers of copies beyond 65,535 count as that
abbrev pub capped_count : ℕ → ℕ
capped_count number = if nat_lt number 65535 then number else 65535

abbrev pub greater : ℕ → ℕ → ℕ
greater a b = if nat_lt a b then b else a

abbrev pub size : ℕ → ℕ → Size
size fixed each = record { fixed = fixed; each = each }

-- the states of two parts
abbrev pub plus : Size → Size → Size
plus a b = size (capped (a.fixed + b.fixed)) (capped (a.each + b.each))

-- the states of an item that is copied so often at most, or is a loop behind its last copy
abbrev pub repeated : ℕ → Size → Size
repeated most item =
    size (capped (most * item.fixed + 2 * item.each + 1)) (capped (most * item.each + most))

-- the items so far on one level of groups: those before the last, and the last
abbrev pub level : Size → Size → Level
level before last = record { before = before; last = last }

abbrev pub empty : Level
empty = level (size 0 0) (size 0 0)

-- one more item
abbrev pub added : Level → Size → Level
added l item = level (plus l.before l.last) item

-- more of the last item
abbrev pub joined : Level → Size → Level
joined l more = level l.before (plus l.last more)

-- the last item, repeated
abbrev pub with_repeated : Level → ℕ → Level
with_repeated l most = level l.before (repeated most l.last)

abbrev pub total : Level → Size
total l = plus l.before l.last

-- a group, with the two states that note where it begins and ends
abbrev pub group : Level → Size
group l = plus (total l) (size 0 2)

-- whether it is a blank
abbrev pub is_blank : ℕ → Bool
is_blank byte = (nat_lt 8 byte && nat_lt byte 14) || byte == 32

-- whether it repeats the item in front of it: `*`, `+` and `?`
abbrev pub repeats : ℕ → Bool
repeats byte = byte == 42 || (byte == 43 || byte == 63)

-- a byte beyond ASCII: in a class, where it may end a range, it counts for all characters that fold to one
-- of the range
abbrev pub character_size : Mode → Size
character_size Pattern = size 4 0
character_size (Class depth) = size 8 0
character_size Comment = size 8 0

-- a byte that is literal: `k` and `s` fold to characters beyond ASCII
abbrev pub byte_size : Mode → ℕ → Size
byte_size mode byte =
    if nat_lt 127 byte then character_size mode
    else (if byte == 107 || byte == 75 then size 3 0
    else (if byte == 115 || byte == 83 then size 2 0 else size 1 0))

-- a byte, literal or not: `.`, `^`, `$`, `|` and `(`
abbrev pub sign_size : Mode → ℕ → Size
sign_size mode byte =
    if byte == 46 then size 8 0
    else (if byte == 94 then size 8 1
    else (if byte == 36 || byte == 124 then size 0 1
    else (if byte == 40 then size 0 2 else byte_size mode byte)))

-- an escape, by the byte behind its `\`
abbrev pub escape_size : ℕ → Size
escape_size byte =
    if byte == 119 || byte == 87 then size 336 0
    else (if byte == 112 || byte == 80 then size 360 0
    else (if byte == 100 || byte == 68 then size 32 0
    else (if byte == 115 || byte == 83 then size 16 0
    else (if byte == 120 || (byte == 117 || byte == 85) then size 32 0 else size 1 1))))

-- how many bytes belong to an escape behind this one, unless braces do
abbrev pub name_length : ℕ → ℕ
name_length byte =
    if byte == 112 || byte == 80 then 1
    else (if byte == 120 then 2 else (if byte == 117 then 4 else (if byte == 85 then 8 else 0)))

abbrev pub named : ℕ → Reading
named count = if count == 0 then Item else Named count

-- what an item or more of it does in a pattern, and in a class or a comment
abbrev pub adding : Mode → Size → Act
adding Pattern item = Adds item
adding (Class depth) item = Joins item
adding Comment item = Joins item

abbrev pub deeper : ℕ → ℕ
deeper depth = if nat_lt depth 65535 then depth + 1 else depth

abbrev pub shallower : ℕ → Mode
shallower depth = if nat_lt depth 2 then Pattern else Class (depth - 1)

abbrev pub turn : Act → Mode → Reading → Turn
turn act mode reading = record { act = act; mode = mode; reading = reading }

abbrev pub in_pattern : ℕ → Turn
in_pattern byte =
    if byte == 92 then turn Nothing Pattern Escaped
    else (if byte == 91 then turn (Adds (size 4 0)) (Class 1) First
    else (if byte == 40 then turn Opens Pattern Opened
    else (if byte == 41 then turn Closes Pattern Item
    else (if byte == 123 then turn Nothing Pattern (Counted 0 0)
    else (if repeats byte then turn (Repeats 1) Pattern Item
    else (if byte == 35 then turn (Joins (size 1 0)) Comment Item
    else (if is_blank byte || (byte == 93 || nat_lt 127 byte)
    then turn (Joins (byte_size Pattern byte)) Pattern Item
    else turn (Adds (sign_size Pattern byte)) Pattern Item)))))))

abbrev pub in_class : ℕ → ℕ → Turn
in_class depth byte =
    if byte == 92 then turn Nothing (Class depth) Escaped
    else (if byte == 91 then turn (Joins (size 4 0)) (Class (deeper depth)) First
    else (if byte == 93 then turn Nothing (shallower depth) Item
    else turn (Joins (byte_size (Class depth) byte)) (Class depth) Item))

-- Behind a `#`, up to the end of the line, there may be a comment or more of the pattern: all of it is one
-- item.
abbrev pub in_comment : ℕ → Turn
in_comment byte =
    if byte == 92 then turn Nothing Comment Escaped
    else (if byte == 123 then turn Nothing Comment (Counted 0 0)
    else (if repeats byte then turn (Repeats 1) Comment Item
    else (if byte == 10 then turn (Joins (size 1 0)) Pattern Item
    else turn (Joins (sign_size Comment byte)) Comment Item)))

-- where an item may begin
abbrev pub at_item : Mode → ℕ → Turn
at_item Pattern byte = in_pattern byte
at_item (Class depth) byte = in_class depth byte
at_item Comment byte = in_comment byte

-- behind `(?`, up to the colon, the name's end or the parenthesis
abbrev pub in_flags : Mode → ℕ → Turn
in_flags mode byte =
    if byte == 58 || byte == 62 then turn Nothing mode Item
    else (if byte == 41 then turn Closes mode Item else turn Nothing mode Flags)

-- behind the letter of an escape that goes on
abbrev pub in_name : Mode → ℕ → ℕ → Turn
in_name mode count byte =
    if byte == 123 then turn Nothing mode Braced
    else (if is_blank byte then turn Nothing mode (Named count)
    else turn Nothing mode (named (count - 1)))

abbrev pub in_braces : Mode → ℕ → Turn
in_braces mode byte = if byte == 125 then turn Nothing mode Item else turn Nothing mode Braced

-- in the braces of a repetition: the number that is read, and the greatest before it
abbrev pub in_count : Mode → ℕ → ℕ → ℕ → Turn
in_count mode number most byte =
    if nat_lt 47 byte && nat_lt byte 58
    then turn Nothing mode (Counted (capped_count (number * 10 + (byte - 48))) most)
    else (if byte == 125 then turn (Repeats (greater (greater number most) 1)) mode Item
    else turn Nothing mode (Counted 0 (greater number most)))

-- behind the `[` of a class, and its `^`
abbrev pub at_first : Mode → ℕ → Turn
at_first mode byte =
    if byte == 94 then turn (Joins (size 8 0)) mode First
    else (if byte == 93 then turn (Joins (size 1 0)) mode Item else at_item mode byte)

abbrev pub behind_parenthesis : Mode → ℕ → Turn
behind_parenthesis mode byte = if byte == 63 then turn Nothing mode Flags else at_item mode byte

-- what a byte does
abbrev pub turn_of : Mode → Reading → ℕ → Turn
turn_of mode Item byte = at_item mode byte
turn_of mode Opened byte = behind_parenthesis mode byte
turn_of mode Flags byte = in_flags mode byte
turn_of mode Escaped byte =
    turn (adding mode (escape_size byte)) mode (named (name_length byte))
turn_of mode (Named count) byte = in_name mode count byte
turn_of mode Braced byte = in_braces mode byte
turn_of mode (Counted number most) byte = in_count mode number most byte
turn_of mode First byte = at_first mode byte

-- How far a text is read: the items on the level there, and on those around it, the inner first.
pub record State : Type 0 where
  pub mode : Mode
  pub reading : Reading
  pub inner : Level
  pub outer : List Level

abbrev pub scan_view : Scan → State
scan_view scan = record {
  mode = scan.mode;
  reading = scan.reading;
  inner = scan.inner;
  outer = fold (λ outer l. l ∷ outer) [] scan.outer.items;
}

abbrev pub start : State
start = record {
  mode = Pattern;
  reading = Item;
  inner = level (size 4 0) (size 0 0);
  outer = [];
}

-- Behind a closing parenthesis. One that closes nothing makes one item of all before it.
abbrev pub closed : Mode → Reading → Level → List Level → State
closed mode reading inner [] =
    record { mode = mode; reading = reading; inner = level (size 0 0) (total inner); outer = [] }
closed mode reading inner (l ∷ outer) =
    record { mode = mode; reading = reading; inner = added l (group inner); outer = outer }

-- the same text, with other items on the level
abbrev pub with_inner : Mode → Reading → Level → List Level → State
with_inner mode reading inner outer =
    record { mode = mode; reading = reading; inner = inner; outer = outer }

abbrev pub acted : Act → Mode → Reading → Level → List Level → State
acted Nothing mode reading inner outer = with_inner mode reading inner outer
acted (Adds item) mode reading inner outer = with_inner mode reading (added inner item) outer
acted (Joins more) mode reading inner outer = with_inner mode reading (joined inner more) outer
acted (Repeats most) mode reading inner outer =
    with_inner mode reading (with_repeated inner most) outer
acted Opens mode reading inner outer = with_inner mode reading empty (inner ∷ outer)
acted Closes mode reading inner outer = closed mode reading inner outer

abbrev pub taken : Turn → Level → List Level → State
taken t inner outer = acted t.act t.mode t.reading inner outer

-- one more byte
abbrev pub with_byte : State → ℕ → State
with_byte s byte = taken (turn_of s.mode s.reading byte) s.inner s.outer

-- the states, where open groups end with the text
abbrev pub whole : Level → List Level → ℕ
whole inner [] = (total inner).fixed + (total inner).each
whole inner (l ∷ outer) = whole (added l (group inner)) outer

abbrev pub whole_of : State → ℕ
whole_of s = whole s.inner s.outer

-- the states of a regular expression at most
unfoldable pub regex_size : List ℕ → ℕ
regex_size text = whole_of (fold with_byte start text)
