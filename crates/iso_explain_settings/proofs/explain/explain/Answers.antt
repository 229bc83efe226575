use Rattle.iso_explain_settings.proofs.explain.explain.Goals as goal

pub returns-in-WrongValue-clause-found : goal.returns-in-WrongValue-clause-found
returns-in-WrongValue-clause-found c document utf8 parsed =
    let told = c.explain_value.ensures document utf8 parsed in
    let m = c.mistake.ensures in
    rw c.in-WrongValue.is (rw (m.kind, m.wanted, m.key, c.as_str.ensures) at told)

pub returns-in-Unsupported-clause-found : goal.returns-in-Unsupported-clause-found
returns-in-Unsupported-clause-found c document utf8 parsed =
    let told = c.explain_value-in-Unsupported.ensures document utf8 parsed in
    let m = c.mistake-in-Unsupported.ensures in
    rw c.in-Unsupported.is (rw (m.kind, m.wanted, m.key, c.as_str-in-Unsupported.ensures) at told)

pub returns-in-OutOfRange-clause-found : goal.returns-in-OutOfRange-clause-found
returns-in-OutOfRange-clause-found c document utf8 parsed =
    let told = c.explain_value-in-OutOfRange.ensures document utf8 parsed in
    let m = c.mistake-in-OutOfRange.ensures in
    rw c.in-OutOfRange.is (rw (m.kind, m.wanted, m.key, c.as_str-in-OutOfRange.ensures) at told)
