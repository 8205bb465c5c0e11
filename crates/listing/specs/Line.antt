-- The line of a record (document 01: the lister), as bytes.
use Rattle.std.specs.Prelude.{ℕ, Bool, false, List, [], ◌∷◌, ◌++◌, ltb}
use Prim.Native.Char.{code}
use Rattle.basics.specs.Choice.{choose}
use Rattle.basics.specs.declared.Written.{Written}
use Rattle.basics.specs.Output.{answered_for, output_for}
use Rattle.text.specs.Ascii.{ascii}
use Rattle.text.specs.Hex.{hex_byte, hex_word}
use Rattle.stream.specs.Layout.{kind_of}
use Rattle.stream.specs.declared.Kind.{Kind}
use Rattle.stream.specs.declared.Kind.TheVariants.{Packet, Datagram, Telegram, Unknown}
use Rattle.record.specs.declared.Header.{Header}
use Rattle.record.specs.Record.{Record}

unfoldable pub hex_bytes : List ℕ → List ℕ
hex_bytes [] = []
hex_bytes (byte ∷ rest) = hex_byte byte ++ hex_bytes rest

-- the kind letter; a question mark for a version of no kind, which no delivered record has
abbrev pub letter : Kind → ℕ
letter Packet = code "P"
letter Datagram = code "D"
letter Telegram = code "T"
letter Unknown = code "?"

-- a telegram's command is a byte; one above 0xFF, which no delivered record has, takes four digits as any other command does
abbrev pub is_byte : Kind → ℕ → Bool
is_byte Packet command = false
is_byte Datagram command = false
is_byte Telegram command = ltb command 256
is_byte Unknown command = false

unfoldable pub hex_command : Kind → ℕ → List ℕ
hex_command K command = choose (is_byte K command) (hex_byte command) (hex_word command)

-- one space between: before each field but the first
abbrev pub spaced : List ℕ → List ℕ
spaced field = code " " ∷ field

-- with an empty payload the line ends after the command
unfoldable pub hex_payload : List ℕ → List ℕ
hex_payload [] = []
hex_payload (byte ∷ rest) = spaced (hex_bytes (byte ∷ rest))

-- kind letter, destination, source, version
abbrev pub hex_fields : Kind → Header → List ℕ
hex_fields K h = letter K ∷ (spaced (hex_word h.destination) ++ (spaced (hex_word h.source) ++ spaced (hex_byte h.version)))

-- then the command
unfoldable pub hex_head : Kind → Header → List ℕ
hex_head K h = hex_fields K h ++ spaced (hex_command K h.command)

-- then the payload, and a newline
unfoldable pub line_of : Record → List ℕ
line_of r = hex_head (kind_of r.header.version) r.header ++ (hex_payload r.payload ++ ascii "\n")

-- what is answered for an output of the given room; 5: it is shorter than the line
abbrev pub line_written : Record → ℕ → Written
line_written r room = answered_for (line_of r) room

-- the output afterwards
abbrev pub line_after : Record → List ℕ → List ℕ
line_after r out = output_for (line_of r) out
