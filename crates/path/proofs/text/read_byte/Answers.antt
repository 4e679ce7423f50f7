-- A law for each way that a byte is taken.
use mathlib.Core.Path.{sym, ◌∙◌}
use Rattle.name_object.specs.Component.{component_limit}
use Rattle.path.proofs.Readings.{start_up, start-lead, start-wrong, in-dot, in-char, in-none, in-fifth, way-memory}
use native.Mathlib.Omega.{arith}
use Rattle.path.proofs.text.read_byte.Goals as goal

pub returns-then-b-eq-PREFIX_CHAR : goal.returns-then-b-eq-PREFIX_CHAR
returns-then-b-eq-PREFIX_CHAR c =
    let a = c.args in
    record { low = omega arith; is = λ i rest whole o. way-memory c.put.ensures (start_up component_limit a.out.now a.s i a.b rest whole o c.if-chars-eq0.true c.if-b-eq-PREFIX_CHAR.true) }

pub returns-then-is_lead_name_char : goal.returns-then-is_lead_name_char
returns-then-is_lead_name_char c =
    let a = c.args in
    let ok = sym c.is_lead_name_char.ensures ∙ c.if-is_lead_name_char.true in
    record {
      low = omega arith;
      is = λ i rest whole o. way-memory c.put-then-is_lead_name_char.ensures (start-lead component_limit a.out.now a.s i a.b rest whole o c.if-chars-eq0.true c.if-b-eq-PREFIX_CHAR.false ok);
    }

pub returns-then-chars-eq0 : goal.returns-then-chars-eq0
returns-then-chars-eq0 c =
    let a = c.args in
    let no_lead = sym c.is_lead_name_char.ensures ∙ c.if-is_lead_name_char.false in
    record { low = tt; is = λ i rest whole o. start-wrong component_limit a.out.now a.s i a.b rest whole o c.if-chars-eq0.true c.if-b-eq-PREFIX_CHAR.false no_lead }

pub returns-then-b-eq-DOT : goal.returns-then-b-eq-DOT
returns-then-b-eq-DOT c =
    let a = c.args in
    record { low = omega arith; is = λ i rest whole o. in-dot component_limit a.out.now a.s i a.b rest whole o c.if-chars-eq0.false c.if-b-eq-DOT.true }

pub returns-then-is_name_char : goal.returns-then-is_name_char
returns-then-is_name_char c =
    let a = c.args in
    let ok = sym c.is_name_char.ensures ∙ c.if-is_name_char.true in
    record {
      low = omega arith;
      is = λ i rest whole o.
          way-memory c.put_char.ensures (in-char component_limit a.out.now a.s i a.b rest whole o c.if-chars-eq0.false c.if-b-eq-DOT.false c.if-chars-lt4.true ok);
    }

pub returns-else-is_name_char : goal.returns-else-is_name_char
returns-else-is_name_char c =
    let a = c.args in
    let none = sym c.is_name_char.ensures ∙ c.if-is_name_char.false in
    record { low = tt; is = λ i rest whole o. in-none component_limit a.out.now a.s i a.b rest whole o c.if-chars-eq0.false c.if-b-eq-DOT.false none }

pub returns-else-chars-lt4 : goal.returns-else-chars-lt4
returns-else-chars-lt4 c =
    let a = c.args in
    record { low = tt; is = λ i rest whole o. in-fifth component_limit a.out.now a.s i a.b rest whole o c.if-chars-eq0.false c.if-b-eq-DOT.false (omega arith) }
