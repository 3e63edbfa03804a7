mod FirstParts
mod AgentCounts
mod DueChunks
mod Clocks
mod StepTaken
mod RunsOn
