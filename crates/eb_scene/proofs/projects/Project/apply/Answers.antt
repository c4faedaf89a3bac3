use Rattle.eb_scene.proofs.projects.Project.apply.Goals as goal

pub returns-in-AddObject : goal.returns-in-AddObject
returns-in-AddObject c = rw c.in-AddObject.is c.add_object.ensures

pub returns-in-SetParent : goal.returns-in-SetParent
returns-in-SetParent c = rw c.in-SetParent.is c.set_parent.ensures

pub returns-in-SetSection : goal.returns-in-SetSection
returns-in-SetSection c = rw c.in-SetSection.is c.set_section.ensures

pub returns-in-PutComponent : goal.returns-in-PutComponent
returns-in-PutComponent c = rw c.in-PutComponent.is (rw (c.bytes.ensures, c.items.ensures) at c.put_component.ensures)

pub returns-in-RemoveComponent : goal.returns-in-RemoveComponent
returns-in-RemoveComponent c = rw c.in-RemoveComponent.is (rw c.bytes-in-RemoveComponent.ensures at c.remove_component.ensures)

pub returns-in-SetField : goal.returns-in-SetField
returns-in-SetField c = rw c.in-SetField.is (rw (c.bytes-in-SetField.ensures, c.bytes-in-SetField-2.ensures) at c.set_field.ensures)
