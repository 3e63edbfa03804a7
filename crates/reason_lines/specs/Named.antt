-- Sets of lines and words of the bus.
use Rattle.std.specs.Prelude.{true, false, ◌||◌}
use Rattle.std.specs.Int.RustNames.{bit_or}
use Rattle.fsb_signal.specs.declared.lines.Lines.{Lines}
use Rattle.fsb_signal.specs.declared.lines.TheConstants.Lines.{BREQ0, BREQ1, BREQ2, BREQ3, BPRI, LOCK, HIT, HITM, RS0, RS1, RS2}
use Rattle.reason_lines.specs.declared.named.NamedLines.{NamedLines}

-- no line
abbrev pub no_lines : NamedLines
no_lines = record { lines = record { 0 = 0 }; has_request = false; has_address = false; has_data = false }

-- with a control line
abbrev pub with_line : Lines → NamedLines → NamedLines
with_line l n = record {
  lines = record { 0 = bit_or n.lines.0 l.0 };
  has_request = n.has_request;
  has_address = n.has_address;
  has_data = n.has_data;
}

-- with REQ#
abbrev pub with_request : NamedLines → NamedLines
with_request n = record {
  lines = n.lines;
  has_request = true;
  has_address = n.has_address;
  has_data = n.has_data;
}

-- with A#
abbrev pub with_address : NamedLines → NamedLines
with_address n = record {
  lines = n.lines;
  has_request = n.has_request;
  has_address = true;
  has_data = n.has_data;
}

-- with D#
abbrev pub with_data : NamedLines → NamedLines
with_data n = record {
  lines = n.lines;
  has_request = n.has_request;
  has_address = n.has_address;
  has_data = true;
}

-- all lines and words of the two
abbrev pub both : NamedLines → NamedLines → NamedLines
both a b = record {
  lines = record { 0 = bit_or a.lines.0 b.lines.0 };
  has_request = a.has_request || b.has_request;
  has_address = a.has_address || b.has_address;
  has_data = a.has_data || b.has_data;
}

-- with the lines by which agents ask for the bus
abbrev pub with_asked : NamedLines → NamedLines
with_asked n = with_line BPRI (with_line BREQ3 (with_line BREQ2 (with_line BREQ1 (with_line BREQ0 n))))

-- with the lines that decide who wins the bus
abbrev pub with_arbitration : NamedLines → NamedLines
with_arbitration n = with_line LOCK (with_asked n)

-- with the lines that show when a snoop ends
abbrev pub with_snoop : NamedLines → NamedLines
with_snoop n = with_line HITM (with_line HIT n)

-- with RS[2:0]#
abbrev pub with_response : NamedLines → NamedLines
with_response n = with_line RS2 (with_line RS1 (with_line RS0 n))
