use Rattle.eb_base.proofs.NameTexts.{name_of-name_text, name_text-name_of}
use Rattle.eb_base.proofs.names.names_read_back.Goals as goal

pub returns-clause-back : goal.returns-clause-back
returns-clause-back c name h = name_of-name_text name h

pub returns-clause-exact : goal.returns-clause-exact
returns-clause-exact c text name h = (name_text-name_of text name h).0

pub returns-clause-numbers : goal.returns-clause-numbers
returns-clause-numbers c text name h = (name_text-name_of text name h).1
