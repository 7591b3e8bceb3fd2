mod Folders
mod ListNames
